-- A printed number is read again.
use Rattle.std.proofs.Common.{◌≡◌, ℕ, zero, suc, ◌+◌, ◌*◌, ◌-◌, ◌/◌, ◌%◌, ◌^◌, ◌<◌, ◌≤◌, Bool, true}
use Rattle.std.proofs.Common.{not, List, [], ◌∷◌, ◌++◌, length, get_or, Ok, Some, refl, ap, sym}
use Rattle.std.proofs.Common.{◌∙◌, append_assoc, append-nil, inl, inr, arith}
use Rattle.std.specs.List.{list_all}
use Rattle.std.specs.Fmt.{decimal}
use Rattle.std.specs.Char.{is_ascii_digit}
use Rattle.std.proofs.lemmas.Fmt.{decimal_digit, decimal_step, decimal_by_steps, decimal_nonempty}
use Rattle.std.proofs.lemmas.Fmt.{first_decimal}
use Rattle.std.proofs.lemmas.List.Folds.{list_all-append}
use Rattle.std.proofs.lemmas.Bool.{agree_below_at, not-true, ne_eqb, cases_lt, and_from, le-leb}
use Rattle.text_lines.specs.Bytes.{unblanked}
use Rattle.text_lines.specs.Reading.{Read, further, number_at}
use Rattle.text_lines.specs.Numbers.{digits_from, decimal_of}

-- ---- its bytes

-- what each digit passes, each byte of a printed number passes
pub all_digits : (p : ℕ → Bool) → ((d : ℕ) → d < 10 → p (48 + d) ≡ true) → (n : ℕ) → n < 2 ^ 64
    → list_all p (decimal n) ≡ true
all_digits p each n h =
    decimal_by_steps (λ n ds. list_all p ds ≡ true) (λ n h. rw (each n h) refl)
    (λ n ds h all. list_all-append p ds ((48 + n % 10) ∷ [])
    ∙ and_from _ _ all (rw (each (n % 10) (omega arith)) refl))
    n h

pub digit_is : (d : ℕ) → d < 10 → is_ascii_digit (48 + d) ≡ true
digit_is d h = agree_below_at (λ d. is_ascii_digit (48 + d)) (λ d. true) 10 d refl h

-- ---- read by its form: one to three digits

-- no digit stands at the front
abbrev pub is_undigited : List ℕ → Bool
is_undigited [] = true
is_undigited (b ∷ bs) = not (is_ascii_digit b)

further_digit : (n d : ℕ) (rest : List ℕ) → d < 10
    → further (n, (48 + d) ∷ rest) ≡ (10 * n + d, rest)
further_digit n d rest h =
    let value : 48 + d - 48 ≡ d = omega arith in
    rw (digit_is d h, value) refl

further_end : (n : ℕ) (rest : List ℕ) → is_undigited rest ≡ true → further (n, rest) ≡ (n, rest)
further_end n [] e = refl
further_end n (b ∷ bs) e = rw (not-true (is_ascii_digit b) e) refl

-- the number that a first digit begins, with what follows it
abbrev begun : ℕ × List ℕ → Read ℕ
begun n = Ok (n.0, unblanked n.1)

begun_by : (d : ℕ) (rest : List ℕ) → 0 < d → d < 10
    → number_at ((48 + d) ∷ rest) ≡ begun (further (further (d, rest)))
unfolding number_at
begun_by d rest some h =
    let value : 48 + d - 48 ≡ d = omega arith in
    rw (ne_eqb (48 + d) 48 (λ e. absurd (omega arith)), digit_is d h)
    (ap (λ (k : ℕ). begun (further (further (k, rest)))) value)

one_again : (n : ℕ) (rest : List ℕ) → n < 10 → is_undigited rest ≡ true
    → number_at ((48 + n) ∷ rest) ≡ Ok (n, unblanked rest)
unfolding number_at
one_again zero rest h e = refl
one_again (suc m) rest h e =
    begun_by (suc m) rest (omega arith) h
    ∙ ap (λ (x : ℕ × List ℕ). begun (further x)) (further_end (suc m) rest e)
    ∙ ap begun (further_end (suc m) rest e)

two_again : (a b : ℕ) (rest : List ℕ) → 0 < a → a < 10 → b < 10 → is_undigited rest ≡ true
    → number_at ((48 + a) ∷ (48 + b) ∷ rest) ≡ Ok (10 * a + b, unblanked rest)
two_again a b rest some h k e =
    begun_by a ((48 + b) ∷ rest) some h
    ∙ ap (λ (x : ℕ × List ℕ). begun (further x)) (further_digit a b rest k)
    ∙ ap begun (further_end (10 * a + b) rest e)

three_again : (a b c : ℕ) (rest : List ℕ) → 0 < a → a < 10 → b < 10 → c < 10
    → number_at ((48 + a) ∷ (48 + b) ∷ (48 + c) ∷ rest) ≡ Ok (10 * (10 * a + b) + c, unblanked rest)
three_again a b c rest some h k m =
    begun_by a ((48 + b) ∷ (48 + c) ∷ rest) some h
    ∙ ap (λ (x : ℕ × List ℕ). begun (further x)) (further_digit a b ((48 + c) ∷ rest) k)
    ∙ ap begun (further_digit (10 * a + b) c rest m)

pub two_digits : (n : ℕ) → 10 ≤ n → n < 100 → decimal n ≡ (48 + n / 10) ∷ (48 + n % 10) ∷ []
two_digits n h k =
    decimal_step n h (omega arith)
    ∙ ap (λ (t : List ℕ). t ++ (48 + n % 10) ∷ []) (decimal_digit (n / 10) (omega arith))

pub three_digits : (n : ℕ) → 100 ≤ n → n < 1000
    → decimal n ≡ (48 + n / 10 / 10) ∷ (48 + n / 10 % 10) ∷ (48 + n % 10) ∷ []
three_digits n h k =
    decimal_step n (omega arith) (omega arith)
    ∙ ap (λ (t : List ℕ). t ++ (48 + n % 10) ∷ []) (two_digits (n / 10) (omega arith) (omega arith))

read_as : (n m : ℕ) (rest : List ℕ) → n ≡ m → begun (n, rest) ≡ begun (m, rest)
read_as n m rest e = ap (λ (k : ℕ). begun (k, rest)) e

-- a number below 1,000 is read up to its end, and the blanks behind it
pub number_again : (n : ℕ) (rest : List ℕ) → n < 1000 → is_undigited rest ≡ true
    → number_at (decimal n ++ rest) ≡ Ok (n, unblanked rest)
number_again n rest h e =
    elim (cases_lt n 10) [
      | inl k ↦
          ap (λ (t : List ℕ). number_at (t ++ rest)) (decimal_digit n k) ∙ one_again n rest k e
      | inr k ↦
          elim (cases_lt n 100) [
            | inl m ↦
                ap (λ (t : List ℕ). number_at (t ++ rest)) (two_digits n k m)
                ∙ two_again (n / 10) (n % 10) rest (omega arith) (omega arith) (omega arith) e
                ∙ read_as (10 * (n / 10) + n % 10) n rest (omega arith)
            | inr m ↦
                ap (λ (t : List ℕ). number_at (t ++ rest)) (three_digits n m h)
                ∙ three_again (n / 10 / 10) (n / 10 % 10) (n % 10) rest (omega arith) (omega arith)
                (omega arith) (omega arith)
                ∙ read_as (10 * (10 * (n / 10 / 10) + n / 10 % 10) + n % 10) n rest (omega arith)
          ]
    ]

-- ---- read as a whole text

digit_taken : (max n d : ℕ) (rest : List ℕ) → d < 10 → 10 * n + d ≤ max
    → digits_from max n ((48 + d) ∷ rest) ≡ digits_from max (10 * n + d) rest
unfolding digits_from
digit_taken max n d rest h k =
    let value : 48 + d - 48 ≡ d = omega arith in
    rw (digit_is d h, value, le-leb (10 * n + d) max k) refl

abbrev IsTaken : ℕ → ℕ → List ℕ → Type 0
IsTaken max n ds =
    n ≤ max → (rest : List ℕ) → digits_from max 0 (ds ++ rest) ≡ digits_from max n rest

digit_more : (max n : ℕ) (ds : List ℕ) → IsTaken max (n / 10) ds
    → IsTaken max n (ds ++ (48 + n % 10) ∷ [])
digit_more max n ds taken h rest =
    let whole : 10 * (n / 10) + n % 10 ≡ n = omega arith in
    ap (digits_from max 0) (append_assoc ds ((48 + n % 10) ∷ []) rest)
    ∙ taken (omega arith) ((48 + n % 10) ∷ rest)
    ∙ digit_taken max (n / 10) (n % 10) rest (omega arith) (omega arith)
    ∙ ap (λ (k : ℕ). digits_from max k rest) whole

digits_taken : (max n : ℕ) → n < 2 ^ 64 → IsTaken max n (decimal n)
digits_taken max n h =
    decimal_by_steps (IsTaken max)
    (λ n small h rest. let same : 10 * 0 + n ≡ n = omega arith in
    digit_taken max 0 n rest small (omega arith) ∙ ap (λ (k : ℕ). digits_from max k rest) same)
    (λ n ds h taken. digit_more max n ds taken) n h

digits_again : (max n : ℕ) → n < 2 ^ 64 → n ≤ max → digits_from max 0 (decimal n) ≡ Some n
unfolding digits_from
digits_again max n h k =
    ap (digits_from max 0) (sym (append-nil (decimal n))) ∙ digits_taken max n h k []

by_digits : (max : ℕ) (ds : List ℕ) → 0 < length ds → 48 < get_or ds 0 0
    → decimal_of max ds ≡ digits_from max 0 ds
unfolding decimal_of
by_digits max [] h k = absurd (omega arith)
by_digits max (b ∷ bs) h k = rw (ne_eqb b 48 (λ e. absurd (omega arith))) refl

-- a number within the limit is read again
pub decimal_again : (max n : ℕ) → n < 2 ^ 64 → n ≤ max → decimal_of max (decimal n) ≡ Some n
unfolding decimal_of
decimal_again max zero h k = ap (decimal_of max) (decimal_digit 0 (omega arith))
decimal_again max (suc m) h k =
    by_digits max (decimal (suc m)) (decimal_nonempty (suc m) h)
    (first_decimal (suc m) (omega arith) h)
    ∙ digits_again max (suc m) h k
