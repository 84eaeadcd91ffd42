-- How a text spells a key: by its name, by its character, or by \u and four digits.
use Rattle.std.specs.Prelude.{ℕ, ◌+◌, ◌*◌, Bool, not, ◌==◌, ◌&&◌, ◌||◌, nat_le, if◌then◌else◌, List}
use Rattle.std.specs.Prelude.{[], ◌∷◌, Option, Some, None}
use Rattle.std.specs.Char.{is_ascii_hexdigit, digit_value}
use Rattle.share_base.specs.declared.numbers.KeyId.{KeyId}
use Rattle.hotkey_rules.specs.KeyNames.{key_of_name}

abbrev pub key_id : ℕ → KeyId
key_id n = record { 0 = n }

-- a printed character of ASCII that is no sign of a line: none of ( ) , ; + = # and \
abbrev pub is_plain : ℕ → Bool
is_plain b =
    (nat_le 33 b && nat_le b 126)
    && not
    ((b == 40) || (b == 41) || (b == 44) || (b == 59) || (b == 43) || (b == 61) || (b == 35)
    || (b == 92))

-- the key of one character
abbrev pub plain_key : List ℕ → Option KeyId
plain_key (b ∷ []) = if is_plain b then Some (key_id b) else None
plain_key xs = None

-- the number of four digits of base 16
abbrev pub four_digits : ℕ → ℕ → ℕ → ℕ → ℕ
four_digits a b c d =
    4096 * digit_value a + 256 * digit_value b + 16 * digit_value c + digit_value d

-- a key of four digits of base 16 that are not all 0
abbrev pub unless_zero : ℕ → Option KeyId
unless_zero n = if n == 0 then None else Some (key_id n)

abbrev pub number_of_digits : ℕ → ℕ → ℕ → ℕ → Option KeyId
number_of_digits a b c d =
    if is_ascii_hexdigit a && is_ascii_hexdigit b && is_ascii_hexdigit c && is_ascii_hexdigit d
    then unless_zero (four_digits a b c d) else None

-- the key of a number: \u and such digits
abbrev pub coded_key : List ℕ → Option KeyId
coded_key (s ∷ u ∷ a ∷ b ∷ c ∷ d ∷ []) =
    if (s == 92) && (u == 117) then number_of_digits a b c d else None
coded_key xs = None

abbrev pub first_of : {A : Type 0} → Option A → Option A → Option A
first_of (Some a) other = Some a
first_of None other = other

-- the key that a word spells
unfoldable pub key_named : List ℕ → Option KeyId
key_named word = first_of (key_of_name word) (first_of (plain_key word) (coded_key word))
