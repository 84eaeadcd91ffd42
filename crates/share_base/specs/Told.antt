-- Lists that are told or not: an equation on them claims nothing where they are not told.
use Rattle.std.specs.Prelude.{◌≡◌, ℕ, Bool, true, false, List, [], ◌++◌, Option, IfSome}
use Rattle.std.specs.Option.{option_map}

-- the list with these bytes in front of it
abbrev pub before : List ℕ → Option (List ℕ) → Option (List ℕ)
before bytes told = option_map (λ xs. bytes ++ xs) told

-- the list with these bytes after it
abbrev pub after : Option (List ℕ) → List ℕ → Option (List ℕ)
after told bytes = option_map (λ xs. xs ++ bytes) told

-- where it is told, the list is empty
abbrev pub NoneLeft : Option (List ℕ) → Type 0
NoneLeft told = IfSome told (λ xs. xs ≡ [])

-- where it is told, the flag is set
abbrev pub IsSet : Option Bool → Type 0
IsSet told = IfSome told (λ flag. flag ≡ true)

-- where it is told, the flag is not set
abbrev pub NotSet : Option Bool → Type 0
NotSet told = IfSome told (λ flag. flag ≡ false)
