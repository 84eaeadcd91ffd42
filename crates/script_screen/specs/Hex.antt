-- Bytes as texts spell them: pairs of hexadecimal digits, in capital or small letters; no bytes are
-- a single -.
use Rattle.std.specs.Prelude.{ℕ, ◌+◌, ◌*◌, ◌&&◌, nat_le, if◌then◌else◌, List, [], ◌∷◌, length}
use Rattle.std.specs.Prelude.{Option, Some, None, codes}
use Rattle.std.specs.Str.{bytes_eq}
use Rattle.std.specs.Char.{is_ascii_hexdigit, digit_value}
use Rattle.text_lines.specs.Reading.{is_empty}

-- the byte that two digits spell
abbrev pub pair_value : ℕ → ℕ → Option ℕ
pair_value a b =
    if is_ascii_hexdigit a && is_ascii_hexdigit b then Some (16 * digit_value a + digit_value b)
    else None

abbrev pub byte_before : Option ℕ → Option (List ℕ) → Option (List ℕ)
byte_before None rest = None
byte_before (Some byte) None = None
byte_before (Some byte) (Some bytes) = Some (byte ∷ bytes)

unfoldable pub pairs_of : List ℕ → Option (List ℕ)
pairs_of [] = Some []
pairs_of (a ∷ []) = None
pairs_of (a ∷ b ∷ rest) = byte_before (pair_value a b) (pairs_of rest)

abbrev pub hex_of : List ℕ → Option (List ℕ)
hex_of word =
    if bytes_eq word (codes "-") then Some [] else (if is_empty word then None else pairs_of word)

abbrev pub if_within : ℕ → ℕ → Option (List ℕ) → Option (List ℕ)
if_within least most None = None
if_within least most (Some bytes) =
    if nat_le least (length bytes) && nat_le (length bytes) most then Some bytes else None

-- the bytes that a word spells, where they are from the least to the most in number
unfoldable pub bytes_within : ℕ → ℕ → List ℕ → Option (List ℕ)
bytes_within least most word = if_within least most (hex_of word)
