-- The first of a list that passes a test, and a change at it.
use Rattle.std.specs.Prelude.{◌≡◌, Bool, List, [], ◌∷◌, MatchBool}

-- it changes as the relation says, and nothing else does; where none passes, nothing changes
abbrev pub FirstChanges : {X : Type 0} → (X → Bool) → (X → X → Type 0) → List X → List X → Type 0
FirstChanges test R [] [] = Unit {0}
FirstChanges test R [] (y ∷ ys) = ⊥
FirstChanges test R (x ∷ xs) [] = ⊥
FirstChanges test R (x ∷ xs) (y ∷ ys) =
    MatchBool (test x) (R x y × (ys ≡ xs)) ((y ≡ x) × FirstChanges test R xs ys)
