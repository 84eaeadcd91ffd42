-- A word is read as a number if and only if it is that number's decimal digits.
use Rattle.std.proofs.Common.{◌≡◌, ◌<◌, ◌≤◌, ◌^◌, ℕ, Bool, true, false, nat_le, cond, List}
use Rattle.std.proofs.Common.{Option, Some, None, refl, sym, ap, ◌∙◌, arith}
use Rattle.std.specs.Fmt.{decimal}
use Rattle.std.proofs.lemmas.Bool.{leb-true, leb-false}
use Rattle.std.proofs.lemmas.Option.{same_Some}
use Rattle.text_lines.specs.Numbers.{decimal_of}
use Rattle.text_lines.proofs.NumbersAgain.{decimal_again}
use Rattle.text_lines.proofs.DecimalsSpelled.{decimal_spelled, decimal_within}
use Rattle.command_words.specs.Numbers.{IsWithin, from_least, number_of}

-- ---- at least so much

kept_by : (b : Bool) (least k n : ℕ) → nat_le least k ≡ b
    → cond b (let o : Option ℕ = Some k in o) None ≡ Some n → (k ≡ n) × (least ≤ k)
kept_by true least k n test e = (same_Some k n e, leb-true least k test)
kept_by false least k n test e = absurd cc

kept : (least : ℕ) (o : Option ℕ) (n : ℕ) → from_least least o ≡ Some n
    → (o ≡ Some n) × (least ≤ n)
kept least None n e = absurd cc
kept least (Some k) n e =
    let by = kept_by (nat_le least k) least k n refl e in
    (ap (λ (m : ℕ). let o : Option ℕ = Some m in o) by.0, omega (arith, by.0, by.1))

not_left_out : (b : Bool) (least n : ℕ) → nat_le least n ≡ b → least ≤ n
    → cond b (let o : Option ℕ = Some n in o) None ≡ None → ⊥
not_left_out true least n test low e = absurd cc
not_left_out false least n test low e = absurd (omega (arith, leb-false least n test, low))

-- ---- digits

-- the digits of a number within the limit are read as it
read_again : (most n : ℕ) (word : List ℕ) → most < 2 ^ 64 → n ≤ most → decimal n ≡ word
    → decimal_of most word ≡ Some n
read_again most n word small within spelled =
    ap (decimal_of most) (sym spelled) ∙ decimal_again most n (omega (arith, small, within)) within

-- two numbers have other digits
pub same_digits : (most n m : ℕ) → most < 2 ^ 64 → n ≤ most → m ≤ most → decimal n ≡ decimal m
    → n ≡ m
same_digits most n m small low also same =
    same_Some n m
    (sym (read_again most n (decimal m) small low same)
    ∙ read_again most m (decimal m) small also refl)

pub number_spelled : (least most : ℕ) (word : List ℕ) (n : ℕ) → most < 2 ^ 64
    → number_of least most word ≡ Some n → IsWithin least most n × (decimal n ≡ word)
number_spelled least most word n small e =
    let is = kept least (decimal_of most word) n e in
    ((is.1, decimal_within most n word is.0), sym (decimal_spelled most n word small is.0))

pub number_missing : (least most : ℕ) (word : List ℕ) → most < 2 ^ 64
    → number_of least most word ≡ None → (n : ℕ) → IsWithin least most n → decimal n ≡ word → ⊥
number_missing least most word small none n within spelled =
    let read = read_again most n word small within.1 spelled in
    not_left_out (nat_le least n) least n refl within.0 (sym (ap (from_least least) read) ∙ none)
