-- A text that is read as a number is that number's decimal digits.
use Rattle.std.proofs.Common.{◌≡◌, ℕ, ◌+◌, ◌*◌, ◌-◌, ◌/◌, ◌%◌, ◌^◌, ◌<◌, ◌≤◌, Bool, true, false}
use Rattle.std.proofs.Common.{cond, ◌==◌, List, [], ◌∷◌, ◌++◌, Some, None, refl, ap, sym, ◌∙◌}
use Rattle.std.proofs.Common.{append_assoc, append-nil, nat_le, arith}
use Rattle.std.specs.Fmt.{decimal}
use Rattle.std.specs.Char.{is_ascii_digit}
use Rattle.std.proofs.lemmas.Fmt.{decimal_step, decimal_digit}
use Rattle.std.proofs.lemmas.Bool.{eqb-true, eqb-false, leb-true}
use Rattle.std.proofs.lemmas.Bool.Decides.{nat_tests}
use Rattle.text_lines.specs.Reading.{is_empty}
use Rattle.text_lines.specs.Numbers.{digits_from, decimal_of}

pub digit_range : (b : ℕ) → is_ascii_digit b ≡ true → (48 ≤ b) × (b ≤ 57)
digit_range b h = grind (arith, nat_tests)

-- one digit more behind a number
pub decimal_more : (n d : ℕ) → 0 < n → 10 * n + d < 2 ^ 64 → d < 10
    → decimal (10 * n + d) ≡ decimal n ++ (48 + d) ∷ []
decimal_more n d low high small =
    let front : (10 * n + d) / 10 ≡ n = omega arith in
    let last : (10 * n + d) % 10 ≡ d = omega arith in
    decimal_step (10 * n + d) (omega arith) high
    ∙ ap (λ (k : ℕ). decimal k ++ (48 + (10 * n + d) % 10) ∷ []) front
    ∙ ap (λ (k : ℕ). decimal n ++ (48 + k) ∷ []) last

-- the first byte of some digits behind the number n, and what the others give
record Taken (max n b : ℕ) (bs : List ℕ) (m : ℕ) : Type 0 where
  digit : is_ascii_digit b ≡ true
  fits : 10 * n + (b - 48) ≤ max
  rest : digits_from max (10 * n + (b - 48)) bs ≡ Some m

taken_then : (t u : Bool) (max n b : ℕ) (bs : List ℕ) (m : ℕ) → is_ascii_digit b ≡ t
    → nat_le (10 * n + (b - 48)) max ≡ u
    → cond t (cond u (digits_from max (10 * n + (b - 48)) bs) None) None ≡ Some m
    → Taken max n b bs m
taken_then true true max n b bs m e k h = record { digit = e; fits = leb-true _ _ k; rest = h }
taken_then true false max n b bs m e k h = absurd cc
taken_then false u max n b bs m e k h = absurd cc

taken_of : (max n b : ℕ) (bs : List ℕ) (m : ℕ) → digits_from max n (b ∷ bs) ≡ Some m
    → Taken max n b bs m
unfolding digits_from
taken_of max n b bs m h =
    taken_then (is_ascii_digit b) (nat_le (10 * n + (b - 48)) max) max n b bs m refl refl h

nothing_more : (max n m : ℕ) → digits_from max n [] ≡ Some m → n ≡ m
unfolding digits_from
nothing_more max n m h = cc

-- digits behind a number that is not 0
digits_spelled : (max n : ℕ) (ds : List ℕ) (m : ℕ) → max < 2 ^ 64 → 0 < n
    → digits_from max n ds ≡ Some m → decimal n ++ ds ≡ decimal m
digits_spelled max n [] m h some e = append-nil (decimal n) ∙ ap decimal (nothing_more max n m e)
digits_spelled max n (b ∷ bs) m h some e =
    let t = taken_of max n b bs m e in
    let d = digit_range b t.digit in
    let same : 48 + (b - 48) ≡ b = omega (arith, d.0) in
    let longer : decimal (10 * n + (b - 48)) ≡ decimal n ++ b ∷ [] =
    decimal_more n (b - 48) some (omega (arith, t.fits)) (omega (arith, d.1))
    ∙ ap (λ (c : ℕ). decimal n ++ c ∷ []) same in
    sym (append_assoc (decimal n) (b ∷ []) bs) ∙ ap (λ (t : List ℕ). t ++ bs) (sym longer)
    ∙ digits_spelled max (10 * n + (b - 48)) bs m h (omega arith) t.rest

digits_within : (max n : ℕ) (ds : List ℕ) (m : ℕ) → n ≤ max → digits_from max n ds ≡ Some m
    → m ≤ max
digits_within max n [] m h e = omega (arith, nothing_more max n m e)
digits_within max n (b ∷ bs) m h e =
    let t = taken_of max n b bs m e in
    digits_within max (10 * n + (b - 48)) bs m t.fits t.rest

-- a first digit that is not 0
first_spelled : (max b : ℕ) (bs : List ℕ) (n : ℕ) → max < 2 ^ 64 → (b == 48) ≡ false
    → digits_from max 0 (b ∷ bs) ≡ Some n → b ∷ bs ≡ decimal n
first_spelled max b bs n h other e =
    let t = taken_of max 0 b bs n e in
    let d = digit_range b t.digit in
    let some : 0 < 10 * 0 + (b - 48) = omega (arith, d.0, eqb-false b 48 other) in
    let byte : 48 + (10 * 0 + (b - 48)) ≡ b = omega (arith, d.0) in
    sym
    (ap (λ (t : List ℕ). t ++ bs) (decimal_digit (10 * 0 + (b - 48)) (omega (arith, d.1)))
    ∙ ap (λ (c : ℕ). c ∷ bs) byte)
    ∙ digits_spelled max (10 * 0 + (b - 48)) bs n h some t.rest

zero_alone : (b : ℕ) (bs : List ℕ) (n : ℕ) → b ≡ 48 → cond (is_empty bs) (Some 0) None ≡ Some n
    → (n ≡ 0) × (b ∷ bs ≡ decimal n)
zero_alone b [] n e h =
    let none : 0 ≡ n = cc in
    (sym none, ap (λ (c : ℕ). c ∷ []) e ∙ sym (decimal_digit 0 (omega arith)) ∙ ap decimal none)
zero_alone b (c ∷ cs) n e h = absurd cc

decimal_then : (t : Bool) (max b : ℕ) (bs : List ℕ) (n : ℕ) → max < 2 ^ 64 → (b == 48) ≡ t
    → cond t (cond (is_empty bs) (Some 0) None) (digits_from max 0 (b ∷ bs)) ≡ Some n
    → b ∷ bs ≡ decimal n
decimal_then true max b bs n h e k = (zero_alone b bs n (eqb-true b 48 e) k).1
decimal_then false max b bs n h e k = first_spelled max b bs n h e k

within_then : (t : Bool) (max b : ℕ) (bs : List ℕ) (n : ℕ) → (b == 48) ≡ t
    → cond t (cond (is_empty bs) (Some 0) None) (digits_from max 0 (b ∷ bs)) ≡ Some n → n ≤ max
within_then true max b bs n e k = omega (arith, (zero_alone b bs n (eqb-true b 48 e) k).0)
within_then false max b bs n e k = digits_within max 0 (b ∷ bs) n (omega arith) k

pub decimal_spelled : (max n : ℕ) (text : List ℕ) → max < 2 ^ 64 → decimal_of max text ≡ Some n
    → text ≡ decimal n
unfolding decimal_of
decimal_spelled max n [] h e = absurd cc
decimal_spelled max n (b ∷ bs) h e = decimal_then (b == 48) max b bs n h refl e

pub decimal_within : (max n : ℕ) (text : List ℕ) → decimal_of max text ≡ Some n → n ≤ max
unfolding decimal_of
decimal_within max n [] e = absurd cc
decimal_within max n (b ∷ bs) e = within_then (b == 48) max b bs n refl e
