-- The numbers that words spell, and their limits.
use Rattle.std.specs.Prelude.{ℕ, ◌≤◌, nat_le, if◌then◌else◌, List, Option, Some, None}
use Rattle.text_lines.specs.Numbers.{decimal_of}

abbrev pub IsWithin : ℕ → ℕ → ℕ → Type 0
IsWithin least most n = (least ≤ n) × (n ≤ most)

abbrev pub IsPort : ℕ → Type 0
IsPort port = IsWithin 0 65535 port

abbrev pub IsSize : ℕ → Type 0
IsSize size = IsWithin 1 32767 size

abbrev pub IsLong : ℕ → Type 0
IsLong n = IsWithin 0 18446744073709551615 n

abbrev pub AreTurns : ℕ → Type 0
AreTurns turns = IsWithin 0 4294967295 turns

-- the number, where it is at least that
abbrev pub from_least : ℕ → Option ℕ → Option ℕ
from_least least None = None
from_least least (Some n) = if nat_le least n then Some n else None

-- the number that the word spells, where it is within the limits
abbrev pub number_of : ℕ → ℕ → List ℕ → Option ℕ
number_of least most word = from_least least (decimal_of most word)
