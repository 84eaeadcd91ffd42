-- Numbers of one to three digits are read exactly where they are spelled.
use Rattle.std.proofs.Common.{◌≡◌, ℕ, ◌+◌, ◌-◌, ◌*◌, ◌/◌, ◌%◌, ◌<◌, ◌≤◌, Bool, true, false, cond}
use Rattle.std.proofs.Common.{◌==◌, List, [], ◌∷◌, ◌++◌, length, Ok, Err, refl, ap, sym, subst, ◌∙◌}
use Rattle.std.proofs.Common.{inl, inr, append_assoc, append-nil, length-append, arith}
use Rattle.std.specs.Fmt.{decimal}
use Rattle.std.specs.Char.{is_ascii_digit}
use Rattle.std.proofs.lemmas.Fmt.{decimal_digit}
use Rattle.std.proofs.lemmas.Bool.{or_cases, eqb-true, eqb-false, ne_eqb, cases_lt}
use Rattle.text_lines.specs.Bytes.{is_blank, is_tight, unblanked}
use Rattle.text_lines.specs.Reading.{Read, further, number_at}
use Rattle.text_lines.specs.Spelling.{SpellsNumber}
use Rattle.text_lines.proofs.NumbersAgain.{digit_is, two_digits, three_digits, is_undigited}
use Rattle.text_lines.proofs.NumbersAgain.{number_again as decimal_number_again}
use Rattle.text_lines.proofs.DecimalsSpelled.{digit_range, decimal_more}
use Rattle.text_lines.proofs.SpelledWords.{Gap, gap_of, Breaks}

further_breaks : (n : ℕ) (tail : List ℕ) → Breaks is_ascii_digit tail
    → further (n, tail) ≡ (n, tail)
further_breaks n [] h = refl
further_breaks n (b ∷ bs) h = rw h refl

first_digit : (d : ℕ) (bs : List ℕ) → 0 < d → d < 10
    → number_at ((48 + d) ∷ bs) ≡ (let m = further (further (d, bs)) in Ok (m.0, unblanked m.1))
unfolding number_at
first_digit d bs low small =
    let other : ((48 + d) == 48) ≡ false = ne_eqb (48 + d) 48 (λ e. absurd (omega arith)) in
    let value : 48 + d - 48 ≡ d = omega arith in
    rw (other, digit_is d small)
    (ap
    (λ (k : ℕ). let m = further (further (k, bs)) in
    let r : Read ℕ = Ok (m.0, unblanked m.1) in r)
    value)

zero_again : (tail : List ℕ) → number_at (48 ∷ tail) ≡ Ok (0, unblanked tail)
unfolding number_at
zero_again tail = refl

nothing_no_front : (front : List ℕ) (b : ℕ) (t : List ℕ) → [] ≡ front ++ b ∷ t → ⊥
nothing_no_front front b t e = omega (arith, ap length e, length-append front (b ∷ t))

no_digit_again : (n c : ℕ) (cs front : List ℕ) (b : ℕ) (t u : List ℕ) → is_ascii_digit c ≡ false
    → c ∷ cs ≡ front ++ b ∷ t → further (n, front ++ b ∷ u) ≡ (n, front ++ b ∷ u)
no_digit_again n c cs [] b t u h e =
    let same : c ≡ b = cc in
    further_breaks n (b ∷ u) (subst (λ (x : ℕ). is_ascii_digit x ≡ false) same h)
no_digit_again n c cs (x ∷ xs) b t u h e =
    let same : c ≡ x = cc in
    further_breaks n (x ∷ (xs ++ b ∷ u)) (subst (λ (x : ℕ). is_ascii_digit x ≡ false) same h)

-- a number with one digit more, where there is one
record Grown (n : ℕ) (bs : List ℕ) (grown : ℕ × List ℕ) : Type 0 where
  more : List ℕ
  parts : bs ≡ more ++ grown.1
  digits : decimal grown.0 ≡ decimal n ++ more
  low : n ≤ grown.0
  high : grown.0 ≤ 10 * n + 9
  again : (front : List ℕ) (b : ℕ) (t u : List ℕ) → grown.1 ≡ front ++ b ∷ t
      → further (n, more ++ (front ++ b ∷ u)) ≡ (grown.0, front ++ b ∷ u)

grown_then : (t : Bool) (n b : ℕ) (bs : List ℕ) → is_ascii_digit b ≡ t → 0 < n → n < 100
    → Grown n (b ∷ bs) (cond t (10 * n + (b - 48), bs) (n, b ∷ bs))
grown_then true n b bs e low high =
    let d = digit_range b e in
    let same : 48 + (b - 48) ≡ b = omega (arith, d.0) in
    record {
      more = b ∷ [];
      parts = refl;
      digits =
          decimal_more n (b - 48) low (omega (arith, d.0, d.1)) (omega (arith, d.0, d.1))
          ∙ ap (λ (k : ℕ). decimal n ++ k ∷ []) same;
      low = omega arith;
      high = omega (arith, d.1);
      again = λ front c t u k. rw e refl;
    }
grown_then false n b bs e low high =
    record {
      more = [];
      parts = refl;
      digits = sym (append-nil (decimal n));
      low = omega arith;
      high = omega arith;
      again = λ front c t u k. no_digit_again n b bs front c t u e k;
    }

grown_of : (n : ℕ) (bs : List ℕ) → 0 < n → n < 100 → Grown n bs (further (n, bs))
grown_of n [] low high =
    record {
      more = [];
      parts = refl;
      digits = sym (append-nil (decimal n));
      low = omega arith;
      high = omega arith;
      again = λ front c t u k. absurd (nothing_no_front front c t k);
    }
grown_of n (b ∷ bs) low high = grown_then (is_ascii_digit b) n b bs refl low high

-- a number's digits, and blanks behind them
pub record Number (xs : List ℕ) (n : ℕ × List ℕ) : Type 0 where
  pub word : List ℕ
  pub tail : List ℕ
  pub parts : xs ≡ word ++ tail
  pub number : SpellsNumber word n.0
  pub gap : Gap tail n.1
  pub again : (front : List ℕ) (b : ℕ) (t u : List ℕ) → tail ≡ front ++ b ∷ t
      → number_at (word ++ (front ++ b ∷ u)) ≡ Ok (n.0, unblanked (front ++ b ∷ u))

number_of : (d b : ℕ) (bs : List ℕ) → 48 + d ≡ b → 0 < d → d < 10 → (n : ℕ × List ℕ)
    → (let m = further (further (d, bs)) in let r : Read ℕ = Ok (m.0, unblanked m.1) in r) ≡ Ok n
    → Number (b ∷ bs) n
number_of d b bs byte low small n h =
    let one = grown_of d bs low (omega arith) in
    let m = further (d, bs) in
    let two = grown_of m.0 m.1 (omega (arith, one.low)) (omega (arith, one.high)) in
    let k = further m in
    let made : ℕ × List ℕ = (k.0, unblanked k.1) in
    let same : made ≡ n = cc in
    let digits : decimal k.0 ≡ b ∷ (one.more ++ two.more) =
    two.digits
    ∙ ap (λ (t : List ℕ). t ++ two.more)
    (one.digits ∙ ap (λ (t : List ℕ). t ++ one.more) (decimal_digit d small))
    ∙ ap (λ (c : ℕ). c ∷ (one.more ++ two.more)) byte in
    subst (λ (x : ℕ × List ℕ). Number (b ∷ bs) x) same
    (record {
      word = b ∷ (one.more ++ two.more);
      tail = k.1;
      parts =
          ap (λ (t : List ℕ). b ∷ t)
          (one.parts ∙ ap (λ (t : List ℕ). one.more ++ t) two.parts
          ∙ sym (append_assoc one.more two.more k.1));
      number = (sym digits, omega (arith, one.high, two.high));
      gap = gap_of k.1;
      again = λ front c t u e.
          let rest = front ++ c ∷ u in
          let whole : (one.more ++ two.more) ++ rest ≡ one.more ++ ((two.more ++ front) ++ c ∷ u) =
          simp append_assoc in
          let left : m.1 ≡ (two.more ++ front) ++ c ∷ t =
          two.parts ∙ ap (λ (x : List ℕ). two.more ++ x) e
          ∙ sym (append_assoc two.more front (c ∷ t)) in
          let first : further (d, (one.more ++ two.more) ++ rest) ≡ (m.0, two.more ++ rest) =
          ap (λ (x : List ℕ). further (d, x)) whole ∙ one.again (two.more ++ front) c t u left
          ∙ ap (λ (x : List ℕ). let y : ℕ × List ℕ = (m.0, x) in y)
          (append_assoc two.more front (c ∷ u)) in
          let both : further (further (d, (one.more ++ two.more) ++ rest)) ≡ (k.0, rest) =
          ap further first ∙ two.again front c t u e in
          ap (λ (x : ℕ). number_at (x ∷ ((one.more ++ two.more) ++ rest))) (sym byte)
          ∙ first_digit d ((one.more ++ two.more) ++ rest) low small
          ∙ ap (λ (x : ℕ × List ℕ). let y : Read ℕ = Ok (x.0, unblanked x.1) in y) both;
    })

digit_then : (t : Bool) (b : ℕ) (bs : List ℕ) (n : ℕ × List ℕ) → is_ascii_digit b ≡ t
    → (b == 48) ≡ false
    → cond t
    (let m = further (further (b - 48, bs)) in
    let r : Read ℕ = Ok (m.0, unblanked m.1) in r)
    (Err (length (b ∷ bs)))
    ≡ Ok n
    → Number (b ∷ bs) n
digit_then true b bs n e z h =
    let d = digit_range b e in
    let other : b ≡ 48 → ⊥ = eqb-false b 48 z in
    let byte : 48 + (b - 48) ≡ b = omega (arith, d.0) in
    number_of (b - 48) b bs byte (omega (arith, d.0, other)) (omega (arith, d.1)) n h
digit_then false b bs n e z h = absurd cc

zero_then : (t : Bool) (b : ℕ) (bs : List ℕ) (n : ℕ × List ℕ) → (b == 48) ≡ t
    → cond t (let r : Read ℕ = Ok (0, unblanked bs) in r)
    (cond (is_ascii_digit b)
    (let m = further (further (b - 48, bs)) in let r : Read ℕ = Ok (m.0, unblanked m.1) in
    r)
    (Err (length (b ∷ bs))))
    ≡ Ok n
    → Number (b ∷ bs) n
zero_then true b bs n e h =
    let made : ℕ × List ℕ = (0, unblanked bs) in
    let same : made ≡ n = cc in
    subst (λ (x : ℕ × List ℕ). Number (b ∷ bs) x) same
    (record {
      word = b ∷ [];
      tail = bs;
      parts = refl;
      number = (
        ap (λ (k : ℕ). k ∷ []) (eqb-true b 48 e) ∙ sym (decimal_digit 0 (omega arith)),
        omega arith,
      );
      gap = gap_of bs;
      again =
          λ front c t u k. ap (λ (x : ℕ). number_at (x ∷ (front ++ c ∷ u))) (eqb-true b 48 e)
          ∙ zero_again (front ++ c ∷ u);
    })
zero_then false b bs n e h = digit_then (is_ascii_digit b) b bs n refl e h

pub number_takes : (xs : List ℕ) (n : ℕ × List ℕ) → number_at xs ≡ Ok n → Number xs n
unfolding number_at
number_takes [] n h = absurd cc
number_takes (b ∷ bs) n h = zero_then (b == 48) b bs n refl h

-- ---- and again

undigited : (tail : List ℕ) → Breaks is_ascii_digit tail → is_undigited tail ≡ true
undigited [] h = refl
undigited (b ∷ bs) h = rw h refl

-- no digit may follow a number, unless it has three
pub number_again : (w : List ℕ) (n : ℕ) (tail : List ℕ) → SpellsNumber w n
    → Breaks is_ascii_digit tail → number_at (w ++ tail) ≡ Ok (n, unblanked tail)
number_again w n tail h k =
    ap (λ (t : List ℕ). number_at (t ++ tail)) h.0
    ∙ decimal_number_again n tail h.1 (undigited tail k)

-- ---- its first byte

first_of : (n : ℕ) → n < 1000
    → (d : ℕ) × (others : List ℕ) × (d < 10) × (decimal n ≡ (48 + d) ∷ others)
first_of n h =
    elim (cases_lt n 10) [
      | inl small ↦ (n, [], small, decimal_digit n small)
      | inr ten ↦ elim (cases_lt n 100) [
        | inl small ↦ (n / 10, (48 + n % 10) ∷ [], omega arith, two_digits n ten small)
        | inr hundred ↦ (
          n / 10 / 10,
          (48 + n / 10 % 10) ∷ (48 + n % 10) ∷ [],
          omega arith,
          three_digits n hundred h,
        )
      ]
    ]

solid_digit : (d : ℕ) (others : List ℕ) → d < 10 → is_tight ((48 + d) ∷ others) ≡ true
solid_digit d others h =
    let space : ((48 + d) == 32) ≡ false = ne_eqb (48 + d) 32 (λ e. absurd (omega arith)) in
    let tab : ((48 + d) == 9) ≡ false = ne_eqb (48 + d) 9 (λ e. absurd (omega arith)) in
    rw (space, tab) refl

-- a number begins with no blank
pub number_tight : (w : List ℕ) (n : ℕ) (rest : List ℕ) → SpellsNumber w n
    → is_tight (w ++ rest) ≡ true
number_tight w n rest h =
    let f = first_of n h.1 in
    ap (λ (t : List ℕ). is_tight (t ++ rest)) (h.0 ∙ f.3) ∙ solid_digit f.0 (f.1 ++ rest) f.2

pub blank_no_digit : (b : ℕ) → is_blank b ≡ true → is_ascii_digit b ≡ false
blank_no_digit b h =
    elim (or_cases (b == 32) (b == 9) h) [
      | inl e ↦ ap is_ascii_digit (eqb-true b 32 e)
      | inr e ↦ ap is_ascii_digit (eqb-true b 9 e)
    ]
