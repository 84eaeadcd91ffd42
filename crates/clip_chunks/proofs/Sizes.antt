-- The number of a start's digits, as it is read.
use Rattle.std.proofs.Common.{rules, ◌≡◌, ℕ, ◌+◌, ◌*◌, ◌-◌, ◌^◌, ◌<◌, ◌≤◌, true, ◌&&◌, Bool, List}
use Rattle.std.proofs.Common.{length, take, get_or, Option, Some, None, ap, ◌∙◌, arith}
use Rattle.std.specs.Prelude.{nat_le, if◌then◌else◌}
use Rattle.std.proofs.lemmas.Bool.{le-leb}
use Rattle.std.specs.List.{list_all}
use Rattle.std.specs.Char.{is_ascii_digit}
use Rattle.std.specs.Int.{IsInRange}
use Rattle.std.specs.Str.Parse.{digits_value}
use Rattle.std.proofs.lemmas.Str.{digit_value_digit}
use Rattle.std.proofs.lemmas.Str.Parse.{IsNumeralModel, numerals_by_value, digits_value_short}
use Rattle.std.proofs.lemmas.Str.Parse.{digits_value-take-le, digit_at}
use Rattle.std.proofs.lemmas.Int.Digits.{digits_value_more}
use Rattle.clip_chunks.specs.Wholes.{size_of}

pub digits : IsNumeralModel (λ ds. list_all is_ascii_digit ds ≡ true) (digits_value 10)
digits = numerals_by_value _ (search rules)

-- the number with one more digit
pub record OneMore (xs : List ℕ) (i : ℕ) : Type 0 where
  pub low : 48 ≤ get_or xs i 0
  pub high : get_or xs i 0 ≤ 57
  pub small : digits_value 10 (take i xs) < 10 ^ 10
  pub more : digits_value 10 (take (i + 1) xs)
      ≡ 10 * digits_value 10 (take i xs) + (get_or xs i 0 - 48)

pub one_more : (xs : List ℕ) (i : ℕ) → i < length xs → length xs ≤ 10
    → list_all is_ascii_digit xs ≡ true → OneMore xs i
one_more xs i at short all =
    let digit : IsInRange 48 57 (get_or xs i 0) = digit_at xs i (digits.to xs all) at in
    let value = digit_value_digit (get_or xs i 0) digit in
    let whole : digits_value 10 xs < 10 ^ 10 = digits_value_short digits xs 10 all short in
    let part : digits_value 10 (take i xs) ≤ digits_value 10 xs =
    digits_value-take-le 10 xs i (omega arith) in
    let step = digits_value_more 10 xs i at in
    record {
      low = digit.0;
      high = digit.1;
      small = omega (arith, part, whole);
      more = omega (arith, step, value);
    }

pub size_of-some : (text : List ℕ) → 1 ≤ length text → length text ≤ 10
    → list_all is_ascii_digit text ≡ true → size_of text ≡ Some (digits_value 10 text)
size_of-some text some short all =
    let first : nat_le 1 (length text) ≡ true = le-leb 1 (length text) some in
    let second : nat_le (length text) 10 ≡ true = le-leb (length text) 10 short in
    let answer : Bool → Option ℕ = λ b. if b then Some (digits_value 10 text) else None in
    ap (λ (b : Bool). answer (b && nat_le (length text) 10 && list_all is_ascii_digit text)) first
    ∙ ap (λ (b : Bool). answer (b && list_all is_ascii_digit text)) second ∙ ap answer all
