-- The last byte of a list, and a list that has none.
use Rattle.std.proofs.Common.{◌≡◌, ℕ, suc, ◌+◌, ◌-◌, ◌<◌, true, ◌==◌, List, [], ◌∷◌, ◌++◌, length}
use Rattle.std.proofs.Common.{take, get_or, take_all, refl, ap, sym, ◌∙◌, length-append, arith}
use Rattle.std.specs.Prelude.{slice_index}
use Rattle.std.proofs.lemmas.Bool.{eqb-true}
use Rattle.std.proofs.lemmas.List.{take_more}

-- a list is its front and its last byte
pub front_and_last : (xs : List ℕ) → 0 < length xs
    → xs ≡ take (length xs - 1) xs ++ get_or xs (length xs - 1) 0 ∷ []
front_and_last xs h =
    let whole : length xs - 1 + 1 ≡ length xs = omega arith in
    sym (take_all (length xs) xs (omega arith)) ∙ ap (λ n. take n xs) (sym whole)
    ∙ take_more xs (length xs - 1) 0 (omega arith)

pub last_is : (xs : List ℕ) (b : ℕ) → slice_index (xs ++ b ∷ []) (length (xs ++ b ∷ []) - 1) ≡ b
last_is [] b = refl
last_is (x ∷ xs) b =
    let n : length (x ∷ (xs ++ b ∷ [])) - 1 ≡ suc (length (xs ++ b ∷ []) - 1) =
    omega (arith, length-append xs (b ∷ [])) in
    ap (λ m. slice_index (x ∷ (xs ++ b ∷ [])) m) n ∙ last_is xs b

pub is_nil : (xs : List ℕ) → true ≡ (length xs == 0) → xs ≡ []
is_nil [] e = refl
is_nil (x ∷ xs) e = let n : length (x ∷ xs) ≡ 0 = eqb-true _ _ (sym e) in absurd (omega arith)
