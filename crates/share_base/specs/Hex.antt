-- Bytes as hexadecimal digits.
use Rattle.std.specs.Prelude.{ℕ, ◌+◌, ◌/◌, ◌%◌, List, [], ◌∷◌, codes, nat_lt, if◌then◌else◌}
use Rattle.std.specs.List.{flat_map}

-- 0 to 9, and then a to f
abbrev pub hex_digit : ℕ → ℕ
hex_digit n = if nat_lt n 10 then 48 + n else 87 + n

-- the digits of a byte
abbrev pub hex_pair : ℕ → List ℕ
hex_pair byte = hex_digit (byte / 16) ∷ hex_digit (byte % 16) ∷ []

-- the digits of each byte; a dash for no bytes
abbrev pub hex : List ℕ → List ℕ
hex [] = codes "-"
hex (byte ∷ bytes) = flat_map hex_pair (byte ∷ bytes)
