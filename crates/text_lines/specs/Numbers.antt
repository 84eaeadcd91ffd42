-- Numbers as texts spell them: digits, with no 0 in front of another.
use Rattle.std.specs.Prelude.{ℕ, ◌+◌, ◌*◌, ◌-◌, ◌==◌, nat_le, if◌then◌else◌, List, [], ◌∷◌, Option}
use Rattle.std.specs.Prelude.{Some, None}
use Rattle.std.specs.Char.{is_ascii_digit}
use Rattle.text_lines.specs.Reading.{is_empty}

-- the number n and then these digits, where it is at most max
unfoldable pub digits_from : ℕ → ℕ → List ℕ → Option ℕ
digits_from max n [] = Some n
digits_from max n (b ∷ bs) =
    if is_ascii_digit b
    then (let m = 10 * n + (b - 48) in if nat_le m max then digits_from max m bs else None)
    else None

-- the number that the text spells, where it is at most max
unfoldable pub decimal_of : ℕ → List ℕ → Option ℕ
decimal_of max [] = None
decimal_of max (b ∷ bs) =
    if b == 48 then (if is_empty bs then Some 0 else None) else digits_from max 0 (b ∷ bs)
