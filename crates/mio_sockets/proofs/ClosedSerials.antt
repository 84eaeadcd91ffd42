-- The serials of the connections that are left are the serials that are left.
use Rattle.std.proofs.Common.{◌≡◌, refl, ap, Bool, true, false, cond, ℕ, List, [], ◌∷◌, map}
use Rattle.std.specs.Prelude.{filter}

kept : {X : Type 0} (f : X → ℕ) (x : X) (ys : List X) (zs : List ℕ) (b : Bool) → map f ys ≡ zs → map f (cond b (x ∷ ys) ys) ≡ cond b (f x ∷ zs) zs
kept f x ys zs true e = ap (λ (t : List ℕ). f x ∷ t) e
kept f x ys zs false e = e

pub map-filter : {X : Type 0} (f : X → ℕ) (test : ℕ → Bool) (xs : List X) → map f (filter (λ (x : X). test (f x)) xs) ≡ filter test (map f xs)
map-filter f test [] = refl
map-filter {X} f test (x ∷ xs) = kept f x (filter (λ (y : X). test (f y)) xs) (filter test (map f xs)) (test (f x)) (map-filter f test xs)
