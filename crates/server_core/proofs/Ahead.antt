-- The lines that are ahead after one more was run.
use Rattle.std.specs.Prelude.{◌≡◌, ℕ, ◌+◌, zero, suc, List, [], ◌∷◌, map, drop}
use Rattle.std.proofs.Common.{ap, ◌∙◌, add-one}

next : {A B : Type 0} (f : A → B) (n : ℕ) (xs : List A) (y : B) (ys : List B) → map f (drop n xs) ≡ y ∷ ys → map f (drop (suc n) xs) ≡ ys
next f zero [] y ys e = absurd (let x : ⊥ = cc in x)
next f zero (x ∷ xs) y ys e = cc
next f (suc n) [] y ys e = absurd (let x : ⊥ = cc in x)
next f (suc n) (x ∷ xs) y ys e = next f n xs y ys e

pub next-ahead : {A B : Type 0} (f : A → B) (n : ℕ) (xs : List A) (y : B) (ys : List B) → map f (drop n xs) ≡ y ∷ ys → map f (drop (n + 1) xs) ≡ ys
next-ahead f n xs y ys e = ap (λ m. map f (drop m xs)) (add-one n) ∙ next f n xs y ys e
