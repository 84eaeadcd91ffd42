-- The place of a word among the words of borrowed texts.
use Rattle.std.proofs.Common.{◌≡◌, ◌+◌, Bool, cond, not, List, [], ◌∷◌, length, map, refl, ap}
use Rattle.std.proofs.Common.{arith}
use Rattle.std.specs.List.{position, prefix_len}

prefix_len-map : {A B : Type 0} (p : B → Bool) (f : A → B) (xs : List A)
    → prefix_len p (map f xs) ≡ prefix_len (λ x. p (f x)) xs
prefix_len-map p f [] = refl
prefix_len-map p f (x ∷ xs) = ap (λ n. cond (p (f x)) (1 + n) 0) (prefix_len-map p f xs)

length_map : {A B : Type 0} (f : A → B) (xs : List A) → length (map f xs) ≡ length xs
length_map f [] = refl
length_map f (x ∷ xs) = omega (arith, length_map f xs)

-- the place of the first that passes, in a list and in the list of its values
pub position_map : {A B : Type 0} (p : B → Bool) (f : A → B) (xs : List A)
    → position p (map f xs) ≡ position (λ x. p (f x)) xs
position_map p f xs = rw (prefix_len-map (λ b. not (p b)) f xs, length_map f xs) refl
