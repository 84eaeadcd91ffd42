-- How long lists are that parts make up: so many for each element at most.
use Rattle.std.proofs.Common.{◌≡◌, ℕ, ◌*◌, ◌≤◌, Bool, true, List, [], ◌∷◌, length, refl}
use Rattle.std.proofs.Common.{length-append, arith}
use Rattle.std.specs.List.{flat_map, list_all}
use Rattle.std.proofs.Math.Nat.{mul-suc, mul-le-mul_left}
use Rattle.std.proofs.lemmas.Bool.{and_parts}
use Rattle.share_base.proofs.ListTests.{all_where_each}

-- elements that pass a test
pub all_short : {A B : Type 0} (f : A → List B) (k : ℕ) (p : A → Bool) (xs : List A)
    → ((x : A) → p x ≡ true → length (f x) ≤ k) → list_all p xs ≡ true
    → length (flat_map f xs) ≤ k * length xs
all_short f k p [] short h = omega arith
all_short f k p (x ∷ xs) short h =
    let e = and_parts (p x) (list_all p xs) h in
    omega (
      arith,
      length-append (f x) (flat_map f xs),
      mul-suc k (length xs),
      short x e.0,
      all_short f k p xs short e.1,
    )

-- and so many elements at most
pub short_within : {A B : Type 0} (f : A → List B) (k n : ℕ) (p : A → Bool) (xs : List A)
    → ((x : A) → p x ≡ true → length (f x) ≤ k) → list_all p xs ≡ true → length xs ≤ n
    → length (flat_map f xs) ≤ k * n
short_within f k n p xs short h few =
    omega (arith, all_short f k p xs short h, mul-le-mul_left {m = length xs} {n = n} k few)

pub each_within : {A B : Type 0} (f : A → List B) (k n : ℕ) (xs : List A)
    → ((x : A) → length (f x) ≤ k) → length xs ≤ n → length (flat_map f xs) ≤ k * n
each_within f k n xs short few =
    short_within f k n (λ x. true) xs (λ x h. short x) (all_where_each (λ x. true) (λ x. refl) xs)
    few
