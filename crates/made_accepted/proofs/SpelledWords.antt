-- Numbers and bytes as words: whole, and read again.
use Rattle.std.proofs.Common.{◌≡◌, ℕ, zero, suc, ◌+◌, ◌*◌, ◌/◌, ◌%◌, ◌^◌, ◌<◌, ◌≤◌, Bool, true}
use Rattle.std.proofs.Common.{false, not}
use Rattle.std.proofs.Common.{◌==◌, ◌&&◌, List, [], ◌∷◌, length, Some, Option, refl, ap}
use Rattle.std.proofs.Common.{◌∙◌, arith}
use Rattle.std.specs.Prelude.{ℤ, pos, negsuc, codes}
use Rattle.std.specs.Char.{is_ascii_hexdigit, digit_value}
use Rattle.std.specs.Fmt.{decimal, signed_decimal}
use Rattle.std.specs.List.{list_all, flat_map, range_with_len}
use Rattle.std.specs.Str.{bytes_eq}
use Rattle.std.proofs.lemmas.Bool.{agree_below_at, and_from, and_right, eqb-true, not-true}
use Rattle.std.proofs.lemmas.Bool.{and_parts}
use Rattle.std.proofs.lemmas.Bool.{le-leb}
use Rattle.std.proofs.lemmas.Fmt.{decimal_nonempty}
use Rattle.share_base.specs.Hex.{hex_digit, hex_pair, hex}
use Rattle.text_lines.specs.Reading.{begins}
use Rattle.text_lines.proofs.CleanWords.{is_plain, is_solid}
use Rattle.text_lines.proofs.NumbersAgain.{all_digits, decimal_again}
use Rattle.script_screen.specs.Grammar.{signed_of, negated}
use Rattle.script_screen.specs.Hex.{pair_value, pairs_of, bytes_within}
use Rattle.script_screen.proofs.PairSteps.{pairs_length, within_sizes}
use Rattle.made_accepted.proofs.PlainWords.{IsWhole}

-- ---- numbers

pub decimal_whole : (n : ℕ) → n < 2 ^ 64 → IsWhole (decimal n)
decimal_whole n h = record {
  plain = all_digits is_plain
      (λ d k. agree_below_at (λ d. is_plain (48 + d)) (λ d. true) 10 d refl k) n h;
  solid = all_digits is_solid
      (λ d k. agree_below_at (λ d. is_solid (48 + d)) (λ d. true) 10 d refl k) n h;
  some = decimal_nonempty n h;
}

-- at most so far from 0
abbrev pub IsWithin : ℕ → ℤ → Type 0
IsWithin most (pos n) = n ≤ most
IsWithin most (negsuc n) = n < most

pub signed_whole : (z : ℤ) → IsWithin 32767 z → IsWhole (signed_decimal z)
signed_whole (pos n) h = decimal_whole n (omega arith)
signed_whole (negsuc n) h =
    let w = decimal_whole (suc n) (omega arith) in
    record { plain = w.plain; solid = w.solid; some = omega arith }

begins_none : (xs : List ℕ) → list_all (λ b. not (b == 45)) xs ≡ true → begins 45 xs ≡ false
begins_none [] h = refl
begins_none (b ∷ bs) h = not-true (b == 45) (and_parts (not (b == 45)) _ h).0

pub signed_again : (z : ℤ) → IsWithin 32767 z → signed_of (signed_decimal z) ≡ Some z
unfolding signed_of
signed_again (pos n) h =
    rw (
      begins_none (decimal n)
          (all_digits (λ b. not (b == 45))
          (λ d k. agree_below_at (λ d. not (48 + d == 45)) (λ d. true) 10 d refl k) n
          (omega arith)),
      decimal_again 32767 n (omega arith) h,
    )
    refl
signed_again (negsuc n) h = ap negated (decimal_again 32768 (suc n) (omega arith) (omega arith))

-- ---- bytes

abbrev pub AreBytes : List ℕ → Type 0
AreBytes [] = Unit {0}
AreBytes (b ∷ bs) = (b < 256) × AreBytes bs

pub count_bytes : (a n : ℕ) → a + n ≤ 256 → AreBytes (range_with_len a n)
count_bytes a zero h = tt
count_bytes a (suc n) h = (omega arith, count_bytes (a + 1) n (omega arith))

pair_passes : (p : ℕ → Bool) → ((d : ℕ) → d < 16 → p (hex_digit d) ≡ true) → (b : ℕ) → b < 256
    → (bytes : List ℕ) → list_all p (flat_map hex_pair bytes) ≡ true
    → list_all p (flat_map hex_pair (b ∷ bytes)) ≡ true
pair_passes p each b h bytes rest =
    and_from (p (hex_digit (b / 16))) _ (each (b / 16) (omega arith))
    (and_from (p (hex_digit (b % 16))) _ (each (b % 16) (omega arith)) rest)

pairs_pass : (p : ℕ → Bool) → ((d : ℕ) → d < 16 → p (hex_digit d) ≡ true) → (bytes : List ℕ)
    → AreBytes bytes → list_all p (flat_map hex_pair bytes) ≡ true
pairs_pass p each [] h = refl
pairs_pass p each (b ∷ bs) h = pair_passes p each b h.0 bs (pairs_pass p each bs h.1)

pub hex_whole : (bytes : List ℕ) → AreBytes bytes → IsWhole (hex bytes)
hex_whole [] h = record { plain = refl; solid = refl; some = omega arith }
hex_whole (b ∷ bs) h = record {
  plain = pairs_pass is_plain
      (λ d k. agree_below_at (λ d. is_plain (hex_digit d)) (λ d. true) 16 d refl k) (b ∷ bs) h;
  solid = pairs_pass is_solid
      (λ d k. agree_below_at (λ d. is_solid (hex_digit d)) (λ d. true) 16 d refl k) (b ∷ bs) h;
  some = omega arith;
}

abbrev are_digits : ℕ → Bool
are_digits b = is_ascii_hexdigit (hex_digit (b / 16)) && is_ascii_hexdigit (hex_digit (b % 16))

abbrev value_of : ℕ → ℕ
value_of b = 16 * digit_value (hex_digit (b / 16)) + digit_value (hex_digit (b % 16))

pair_again : (b : ℕ) → b < 256 → pair_value (hex_digit (b / 16)) (hex_digit (b % 16)) ≡ Some b
pair_again b h =
    let value : value_of b ≡ b =
    eqb-true (value_of b) b (agree_below_at (λ b. value_of b == b) (λ b. true) 256 b refl h) in
    rw (agree_below_at are_digits (λ b. true) 256 b refl h)
    (ap (λ (n : ℕ). let o : Option ℕ = Some n in o) value)

pairs_again : (bytes : List ℕ) → AreBytes bytes → pairs_of (flat_map hex_pair bytes) ≡ Some bytes
unfolding pairs_of
pairs_again [] h = refl
pairs_again (b ∷ bs) h = rw (pair_again b h.0, pairs_again bs h.1) refl

no_dash : (a b : ℕ) (rest : List ℕ) → bytes_eq (a ∷ b ∷ rest) (codes "-") ≡ false
no_dash a b rest = and_right (a == 45) false refl

pub hex_again : (most : ℕ) (bytes : List ℕ) → AreBytes bytes → length bytes ≤ most
    → bytes_within 0 most (hex bytes) ≡ Some bytes
unfolding bytes_within
hex_again most [] h few = rw (le-leb 0 most (omega arith)) refl
hex_again most (b ∷ bs) h few =
    let again = pairs_again (b ∷ bs) h in
    let half = pairs_length (flat_map hex_pair (b ∷ bs)) (b ∷ bs) again in
    within_sizes 0 most (hex (b ∷ bs))
    (no_dash (hex_digit (b / 16)) (hex_digit (b % 16)) (flat_map hex_pair bs))
    (omega arith) (omega arith) (omega (arith, half))
    ∙ again
