-- A list that goes on from another.
use Rattle.std.specs.Prelude.{◌≡◌, ℕ, List, length, take}

-- the second list begins with the first one
abbrev pub IsFront : List ℕ → List ℕ → Type 0
IsFront front whole = take (length front) whole ≡ front
