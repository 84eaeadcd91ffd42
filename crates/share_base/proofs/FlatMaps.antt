-- Lists that a loop adds up, part by part.
use Rattle.std.proofs.Common.{◌≡◌, ℕ, suc, ◌+◌, ◌<◌, ◌≤◌, List, ◌++◌, length, drop, get_or, ap, sym}
use Rattle.std.proofs.Common.{◌∙◌, append_assoc, append-nil, arith}
use Rattle.std.specs.List.{flat_map}
use Rattle.std.proofs.lemmas.List.{drop_all}
use Rattle.std.proofs.lemmas.List.Concat.{flat_map-cons}
use Rattle.std.proofs.Math.Seq.{drop-cons}

-- the part of one element is added, and those of the elements behind it are left
pub part_added : {A : Type 0} (f : A → List ℕ) (xs : List A) (i : ℕ) (d : A)
    (out new total : List ℕ)
    → i < length xs
    → out ++ flat_map f (drop i xs) ≡ total → new ≡ out ++ f (get_or xs i d)
    → new ++ flat_map f (drop (i + 1) xs) ≡ total
part_added f xs i d out new total h whole added =
    let next : i + 1 ≡ suc i = omega arith in
    ap (λ (n : ℕ). new ++ flat_map f (drop n xs)) next
    ∙ ap (λ (t : List ℕ). t ++ flat_map f (drop (suc i) xs)) added
    ∙ append_assoc out (f (get_or xs i d)) (flat_map f (drop (suc i) xs))
    ∙ ap (λ (t : List ℕ). out ++ t)
    (sym (flat_map-cons f (get_or xs i d) (drop (suc i) xs))
    ∙ sym (ap (flat_map f) (drop-cons xs i d h)))
    ∙ whole

-- no part is left
pub parts_done : {A : Type 0} (f : A → List ℕ) (xs : List A) (i : ℕ) (out total : List ℕ)
    → length xs ≤ i → out ++ flat_map f (drop i xs) ≡ total → out ≡ total
parts_done f xs i out total h whole =
    sym (ap (λ t. out ++ flat_map f t) (drop_all i xs h) ∙ append-nil out) ∙ whole
