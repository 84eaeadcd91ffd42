-- The words of a line that has one byte more.
use Rattle.std.proofs.Common.{◌≡◌, ◌≢◌, ℕ, zero, suc, ◌+◌, ◌-◌, ◌*◌, eqb, cond, true, false, List, [], ◌∷◌, ◌++◌, take, refl, ap, arith}
use Rattle.std.proofs.lemmas.List.Sums.{sum_by-cons, sum_by_push, fold_push}
use Rattle.log_tally.specs.LogLines.{word_after, digits_value}
use Rattle.log_tally.specs.OpenLines.{blanks_in}

-- ---- blanks

blanks_first : (c : ℕ) (cs : List ℕ) → blanks_in (c ∷ cs) ≡ cond (eqb c 32) 1 0 + blanks_in cs
blanks_first c cs = sum_by-cons (λ b. cond (eqb b 32) 1 0) c cs

pub blanks_more : (line : List ℕ) (b : ℕ) → blanks_in (line ++ b ∷ []) ≡ blanks_in line + cond (eqb b 32) 1 0
blanks_more line b = sum_by_push (λ c. cond (eqb c 32) 1 0) line b

-- ---- words

-- a blank goes on with no word
pub word_ends : (k : ℕ) (line : List ℕ) (b : ℕ) → eqb b 32 ≡ true → word_after k (line ++ b ∷ []) ≡ word_after k line
unfolding word_after
word_ends zero [] b h = rw h refl
word_ends (suc k) [] b h = rw h refl
word_ends zero (c ∷ cs) b h = let e = word_ends zero cs b h in grind (arith, e)
word_ends (suc k) (c ∷ cs) b h =
    let e = word_ends k cs b h in let f = word_ends (suc k) cs b h in grind (arith, e, f)

-- another byte goes on with the word that follows the blanks so far
pub word_goes_on : (k : ℕ) (line : List ℕ) (b : ℕ) → eqb b 32 ≡ false → blanks_in line ≡ k
    → word_after k (line ++ b ∷ []) ≡ word_after k line ++ b ∷ []
unfolding word_after
word_goes_on zero [] b h e = rw h refl
word_goes_on (suc k) [] b h e = absurd (omega (arith, e))
word_goes_on zero (c ∷ cs) b h e =
    let first = blanks_first c cs in let rest = word_goes_on zero cs b h in grind (arith, e, first, rest)
word_goes_on (suc k) (c ∷ cs) b h e =
    let first = blanks_first c cs in let one = word_goes_on k cs b h in
    let other = word_goes_on (suc k) cs b h in grind (arith, e, first, one, other)

-- and with no other one
pub word_stays : (k : ℕ) (line : List ℕ) (b : ℕ) → eqb b 32 ≡ false → blanks_in line ≢ k
    → word_after k (line ++ b ∷ []) ≡ word_after k line
unfolding word_after
word_stays zero [] b h e = absurd (e refl)
word_stays (suc k) [] b h e = rw h refl
word_stays zero (c ∷ cs) b h e =
    let first = blanks_first c cs in let rest = word_stays zero cs b h in grind (arith, e, first, rest)
word_stays (suc k) (c ∷ cs) b h e =
    let first = blanks_first c cs in let one = word_stays k cs b h in
    let other = word_stays (suc k) cs b h in grind (arith, e, first, one, other)

-- ---- what is kept of a word

-- the front of a longer word, from the front so far
pub front_more : (n : ℕ) (word more : List ℕ) → take n (take n word ++ more) ≡ take n (word ++ more)
front_more zero word more = refl
front_more (suc n) [] more = refl
front_more (suc n) (c ∷ cs) more = ap (λ (t : List ℕ). c ∷ t) (front_more n cs more)

pub number_more : (digits : List ℕ) (b : ℕ) → digits_value (digits ++ b ∷ []) ≡ 10 * digits_value digits + (b - 48)
unfolding digits_value
number_more digits b = fold_push (λ n digit. 10 * n + (digit - 48)) 0 digits b
