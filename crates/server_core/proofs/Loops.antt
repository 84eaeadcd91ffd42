-- Rules that are carried out one after another.
use Rattle.std.specs.Prelude.{◌≡◌, refl, ℕ, ◌+◌, ◌-◌, ◌<◌, ◌≤◌, zero, suc, List, [], ◌∷◌, ◌++◌, length, take}
use Rattle.std.proofs.Common.{arith, sym, ap, ◌∙◌, get_or, add-one, zero-add}
use Rattle.std.proofs.lemmas.List.{take_more}
use Rattle.machine.specs.Combining.{for_each, times}

pub for_each-append : {A S : Type 0} (xs ys : List A) (rule : A → S → S) (s : S) → for_each (xs ++ ys) rule s ≡ for_each ys rule (for_each xs rule s)
for_each-append [] ys rule s = refl
for_each-append (x ∷ xs) ys rule s = for_each-append xs ys rule (rule x s)

-- one more of a list
pub for_each-more : {A S : Type 0} (xs : List A) (i : ℕ) (x : A) (rule : A → S → S) (s : S) → i < length xs → x ≡ get_or xs i x → for_each (take (i + 1) xs) rule s ≡ rule x (for_each (take i xs) rule s)
for_each-more xs i x rule s h is = ap (λ ys. for_each ys rule s) (take_more xs i x h) ∙ (for_each-append (take i xs) (get_or xs i x ∷ []) rule s ∙ ap (λ y. rule y (for_each (take i xs) rule s)) (sym is))

times-outer : {S : Type 0} (n : ℕ) (rule : S → S) (s : S) → times (suc n) rule s ≡ rule (times n rule s)
times-outer zero rule s = refl
times-outer (suc n) rule s = times-outer n rule (rule s)

-- once more
pub times-more : {S : Type 0} (n : ℕ) (rule : S → S) (s : S) → times (n + 1) rule s ≡ rule (times n rule s)
times-more n rule s = ap (λ m. times m rule s) (add-one n) ∙ times-outer n rule s

times-split : {S : Type 0} (i j : ℕ) (rule : S → S) (s : S) → times j rule (times i rule s) ≡ times (i + j) rule s
times-split zero j rule s = ap (λ n. times n rule s) (sym (zero-add j))
times-split (suc i) j rule s =
    let e : suc (i + j) ≡ suc i + j = omega arith in
    times-split i j rule (rule s) ∙ ap (λ n. times n rule s) e

times-still : {S : Type 0} (n : ℕ) (rule : S → S) (s : S) → rule s ≡ s → times n rule s ≡ s
times-still zero rule s h = refl
times-still (suc n) rule s h = ap (λ t. times n rule t) h ∙ times-still n rule s h

-- a rule that changes nothing any more may be left out
pub times-over : {S : Type 0} (i n : ℕ) (rule : S → S) (s : S) → i ≤ n → rule (times i rule s) ≡ times i rule s → times i rule s ≡ times n rule s
times-over i n rule s le h =
    let e : i + (n - i) ≡ n = omega arith in
    sym (times-still (n - i) rule (times i rule s) h) ∙ (times-split i (n - i) rule s ∙ ap (λ m. times m rule s) e)
