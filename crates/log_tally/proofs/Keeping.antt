-- What is kept of a line that has one byte more.
use Rattle.std.proofs.Common.{◌≡◌, ◌≢◌, ℕ, ◌+◌, ◌-◌, ◌*◌, min, eqb, cond, true, false, List, [], ◌∷◌, ◌++◌, take, sym, ap, ◌∙◌, arith}
use Rattle.std.proofs.lemmas.Bool.Decides.{nat_tests}
use Rattle.log_tally.specs.declared.open_line.OpenLine.{OpenLine}
use Rattle.log_tally.specs.LogLines.{word_after, digits_value}
use Rattle.log_tally.specs.Totals.{capped}
use Rattle.log_tally.specs.OpenLines.{IsKept, blanks_in}
use Rattle.log_tally.proofs.WordSteps.{blanks_more, word_ends, word_goes_on, word_stays, front_more, number_more}

-- ---- tests and counts

is_blank : (b : ℕ) → b ≡ 32 → eqb b 32 ≡ true
is_blank b e = ap (λ (n : ℕ). eqb n 32) e

no_blank : (b : ℕ) → b ≢ 32 → eqb b 32 ≡ false
no_blank b ne = grind (arith, nat_tests)

one_more : (line : List ℕ) (b : ℕ) → b ≡ 32 → blanks_in (line ++ b ∷ []) ≡ blanks_in line + 1
one_more line b e = blanks_more line b ∙ ap (λ t. blanks_in line + cond t 1 0) (is_blank b e)

no_more : (line : List ℕ) (b : ℕ) → b ≢ 32 → blanks_in (line ++ b ∷ []) ≡ blanks_in line
no_more line b ne =
    let e : blanks_in (line ++ b ∷ []) ≡ blanks_in line + 0 =
    blanks_more line b ∙ ap (λ t. blanks_in line + cond t 1 0) (no_blank b ne) in omega (arith, e)

-- ---- parts that stay

first_stays : (line : List ℕ) (b : ℕ) → b ≢ 32 → blanks_in line ≢ 0 → take 7 (word_after 0 line) ≡ take 7 (word_after 0 (line ++ b ∷ []))
first_stays line b ne at = ap (take 7) (sym (word_stays 0 line b (no_blank b ne) at))

number_stays : (k : ℕ) (line : List ℕ) (b : ℕ) → b ≢ 32 → blanks_in line ≢ k → capped (digits_value (word_after k line)) ≡ capped (digits_value (word_after k (line ++ b ∷ [])))
number_stays k line b ne at = ap (λ (w : List ℕ). capped (digits_value w)) (sym (word_stays k line b (no_blank b ne) at))

number_goes_on : (k n : ℕ) (line : List ℕ) (b : ℕ) → b ≢ 32 → blanks_in line ≡ k
    → n ≡ capped (10 * digits_value (word_after k line) + (b - 48)) → n ≡ capped (digits_value (word_after k (line ++ b ∷ [])))
number_goes_on k n line b ne at e =
    e ∙ ap capped (sym (number_more (word_after k line) b))
    ∙ ap (λ (w : List ℕ). capped (digits_value w)) (sym (word_goes_on k line b (no_blank b ne) at))

-- ---- steps

pub kept_at_blank : (kept : OpenLine) (line : List ℕ) (b blanks : ℕ) → b ≡ 32 → blanks ≡ min (kept.blanks + 1) 18446744073709551615
    → IsKept kept line → IsKept (record kept { blanks = blanks }) (line ++ b ∷ [])
kept_at_blank kept line b blanks e is h = record {
  first = h.first ∙ ap (take 7) (sym (word_ends 0 line b (is_blank b e)));
  blanks = let one = one_more line b e in let so_far = h.blanks in grind (arith, one, so_far, is);
  taken = h.taken ∙ ap (λ (w : List ℕ). capped (digits_value w)) (sym (word_ends 2 line b (is_blank b e)));
  queued = h.queued ∙ ap (λ (w : List ℕ). capped (digits_value w)) (sym (word_ends 3 line b (is_blank b e)));
}

blanks_stay : (kept : OpenLine) (line : List ℕ) (b : ℕ) → b ≢ 32 → IsKept kept line → kept.blanks ≡ capped (blanks_in (line ++ b ∷ []))
blanks_stay kept line b ne h = h.blanks ∙ ap capped (sym (no_more line b ne))

pub kept_first : (kept : OpenLine) (line : List ℕ) (b : ℕ) → b ≢ 32 → kept.blanks ≡ 0
    → IsKept kept line → IsKept (record kept { first = take 7 (kept.first ++ b ∷ []) }) (line ++ b ∷ [])
kept_first kept line b ne none h =
    let at : blanks_in line ≡ 0 = let so_far = h.blanks in grind (arith, so_far, none) in
    record {
      first = ap (λ (w : List ℕ). take 7 (w ++ b ∷ [])) h.first ∙ front_more 7 (word_after 0 line) (b ∷ [])
          ∙ ap (take 7) (sym (word_goes_on 0 line b (no_blank b ne) at));
      blanks = blanks_stay kept line b ne h;
      taken = h.taken ∙ number_stays 2 line b ne (λ e. omega (arith, at, e));
      queued = h.queued ∙ number_stays 3 line b ne (λ e. omega (arith, at, e));
    }

pub kept_third : (kept : OpenLine) (line : List ℕ) (b n : ℕ) → b ≢ 32 → kept.blanks ≡ 2
    → n ≡ capped (10 * digits_value (word_after 2 line) + (b - 48))
    → IsKept kept line → IsKept (record kept { taken = n }) (line ++ b ∷ [])
kept_third kept line b n ne two is h =
    let at : blanks_in line ≡ 2 = let so_far = h.blanks in grind (arith, so_far, two) in
    record {
      first = h.first ∙ first_stays line b ne (λ e. omega (arith, at, e));
      blanks = blanks_stay kept line b ne h;
      taken = number_goes_on 2 n line b ne at is;
      queued = h.queued ∙ number_stays 3 line b ne (λ e. omega (arith, at, e));
    }

pub kept_fourth : (kept : OpenLine) (line : List ℕ) (b n : ℕ) → b ≢ 32 → kept.blanks ≡ 3
    → n ≡ capped (10 * digits_value (word_after 3 line) + (b - 48))
    → IsKept kept line → IsKept (record kept { queued = n }) (line ++ b ∷ [])
kept_fourth kept line b n ne three is h =
    let at : blanks_in line ≡ 3 = let so_far = h.blanks in grind (arith, so_far, three) in
    record {
      first = h.first ∙ first_stays line b ne (λ e. omega (arith, at, e));
      blanks = blanks_stay kept line b ne h;
      taken = h.taken ∙ number_stays 2 line b ne (λ e. omega (arith, at, e));
      queued = number_goes_on 3 n line b ne at is;
    }

pub kept_elsewhere : (kept : OpenLine) (line : List ℕ) (b : ℕ) → b ≢ 32 → kept.blanks ≢ 0 → kept.blanks ≢ 2 → kept.blanks ≢ 3
    → IsKept kept line → IsKept kept (line ++ b ∷ [])
kept_elsewhere kept line b ne zeroth third fourth h =
    let so_far = h.blanks in
    record {
      first = h.first ∙ first_stays line b ne (λ e. zeroth (h.blanks ∙ ap capped e));
      blanks = blanks_stay kept line b ne h;
      taken = h.taken ∙ number_stays 2 line b ne (λ e. third (h.blanks ∙ ap capped e));
      queued = h.queued ∙ number_stays 3 line b ne (λ e. fourth (h.blanks ∙ ap capped e));
    }
