-- How long the lines of events are.
use Rattle.std.proofs.Common.{◌≡◌, ℕ, suc, ◌+◌, ◌*◌, ◌<◌, ◌≤◌, Bool, true, false, List, [], ◌∷◌}
use Rattle.std.proofs.Common.{length, length-append, arith}
use Rattle.std.specs.Prelude.{ℤ, pos, negsuc, codes}
use Rattle.std.specs.Fmt.{decimal, signed_decimal}
use Rattle.std.specs.List.{flat_map, range_with_len}
use Rattle.std.proofs.lemmas.Fmt.{length-decimal-le}
use Rattle.std.proofs.lemmas.List.FromFn.{length-range_with_len}
use Rattle.share_base.specs.Hex.{hex_pair, hex}
use Rattle.made_accepted.proofs.PlainWords.{joined}
use Rattle.made_accepted.proofs.SpelledWords.{IsWithin}
use Rattle.made_accepted.proofs.TakenLines.{key_rest, up_or_down}

joined_length : (w v : List ℕ) (ws : List (List ℕ))
    → length (joined (w ∷ v ∷ ws)) ≡ length w + suc (length (joined (v ∷ ws)))
joined_length w v ws = length-append w (32 ∷ joined (v ∷ ws))

number_short : (n : ℕ) → n ≤ 32768 → length (decimal n) ≤ 5
number_short n h = length-decimal-le 5 n (omega arith) (omega arith) (omega arith)

signed_short : (z : ℤ) → IsWithin 32767 z → length (signed_decimal z) ≤ 6
signed_short (pos n) h = omega (arith, number_short n (omega arith))
signed_short (negsuc n) h = omega (arith, number_short (suc n) (omega arith))

pub motion_short : (dx dy : ℤ) → IsWithin 32767 dx → IsWithin 32767 dy
    → length (joined (codes "motion" ∷ signed_decimal dx ∷ signed_decimal dy ∷ [])) < 200
motion_short dx dy h k =
    omega (
      arith,
      joined_length (codes "motion") (signed_decimal dx) (signed_decimal dy ∷ []),
      joined_length (signed_decimal dx) (signed_decimal dy) [],
      signed_short dx h,
      signed_short dy k,
    )

pub key_short : (t : Bool) (b : ℕ) → b ≤ 40
    → length (joined (codes "key" ∷ key_rest t b)) < 200
key_short true b h =
    omega (
      arith,
      joined_length (codes "key") (codes "up") (decimal b ∷ []),
      joined_length (codes "up") (decimal b) [],
      number_short b (omega arith),
    )
key_short false b h =
    omega (
      arith,
      joined_length (codes "key") (codes "down") (decimal (96 + b) ∷ decimal b ∷ []),
      joined_length (codes "down") (decimal (96 + b)) (decimal b ∷ []),
      joined_length (decimal (96 + b)) (decimal b) [],
      number_short b (omega arith),
      number_short (96 + b) (omega arith),
    )

direction_short : (t : Bool) → length (up_or_down t) ≤ 4
direction_short true = omega arith
direction_short false = omega arith

pub button_short : (t : Bool) (b : ℕ) → b ≤ 40
    → length (joined (codes "button" ∷ up_or_down t ∷ decimal b ∷ [])) < 200
button_short t b h =
    omega (
      arith,
      joined_length (codes "button") (up_or_down t) (decimal b ∷ []),
      joined_length (up_or_down t) (decimal b) [],
      direction_short t,
      number_short b (omega arith),
    )

length_of_pairs : (bytes : List ℕ) → length (flat_map hex_pair bytes) ≡ 2 * length bytes
length_of_pairs [] = omega arith
length_of_pairs (b ∷ bs) = omega (arith, length_of_pairs bs)

hex_short : (bytes : List ℕ) → length (hex bytes) ≤ 1 + 2 * length bytes
hex_short [] = omega arith
hex_short (b ∷ bs) = omega (arith, length_of_pairs (b ∷ bs))

pub copy_short : (count : ℕ) → count ≤ 64
    → length (joined (codes "copy" ∷ codes "0" ∷ hex (range_with_len 0 count) ∷ [])) < 200
copy_short count h =
    omega (
      arith,
      joined_length (codes "copy") (codes "0") (hex (range_with_len 0 count) ∷ []),
      joined_length (codes "0") (hex (range_with_len 0 count)) [],
      hex_short (range_with_len 0 count),
      length-range_with_len 0 count,
    )
