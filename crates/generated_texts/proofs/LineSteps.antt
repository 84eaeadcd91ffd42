-- Lists of numbers in a row, and what a loop over them prints.
use Rattle.std.proofs.Common.{◌≡◌, ℕ, zero, suc, ◌+◌, List, [], ◌∷◌, ◌++◌, ap, sym, ◌∙◌, add-zero, add-one, zero-add, append_assoc, arith}
use Rattle.std.specs.List.{flat_map, range_with_len}
use Rattle.std.proofs.lemmas.List.{append-nil}
use Rattle.std.proofs.lemmas.List.Concat.{flat_map-append}

pub range_more : (a n : ℕ) → range_with_len a (suc n) ≡ range_with_len a n ++ (a + n) ∷ []
range_more a zero = ap (λ (k : ℕ). k ∷ []) (sym (add-zero a))
range_more a (suc n) =
    let on : a + 1 + n ≡ a + suc n = omega arith in
    ap (λ (xs : List ℕ). a ∷ xs)
    (range_more (a + 1) n ∙ ap (λ (k : ℕ). range_with_len (a + 1) n ++ k ∷ []) on)

-- from 0 on
pub count_more : (n : ℕ) → range_with_len 0 (suc n) ≡ range_with_len 0 n ++ n ∷ []
count_more n = range_more 0 n ∙ ap (λ (k : ℕ). range_with_len 0 n ++ k ∷ []) (zero-add n)

-- what is printed of one number more
pub printed_more : (f : ℕ → List ℕ) (n : ℕ)
    → flat_map f (range_with_len 0 (suc n)) ≡ flat_map f (range_with_len 0 n) ++ f n
printed_more f n =
    ap (flat_map f) (count_more n) ∙ flat_map-append f (range_with_len 0 n) (n ∷ [])
    ∙ ap (λ (t : List ℕ). flat_map f (range_with_len 0 n) ++ t) (append-nil (f n))

-- the same behind what a loop began with
pub put_more : (f : ℕ → List ℕ) (n : ℕ) (start out new : List ℕ)
    → out ≡ start ++ flat_map f (range_with_len 0 n) → new ≡ out ++ f n
    → new ≡ start ++ flat_map f (range_with_len 0 (n + 1))
put_more f n start out new so_far more =
    more ∙ ap (λ (t : List ℕ). t ++ f n) so_far
    ∙ append_assoc start (flat_map f (range_with_len 0 n)) (f n)
    ∙ ap (λ (t : List ℕ). start ++ t) (sym (printed_more f n))
    ∙ ap (λ (k : ℕ). start ++ flat_map f (range_with_len 0 k)) (sym (add-one n))
