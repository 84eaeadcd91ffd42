-- Kinds of bytes, and the longest front of one kind.
use Rattle.std.specs.Prelude.{ℕ, Bool, true, not, ◌==◌, ◌&&◌, ◌||◌, nat_le, if◌then◌else◌, List, []}
use Rattle.std.specs.Prelude.{◌∷◌, take, drop}
use Rattle.std.specs.List.{prefix_len}
use Rattle.std.specs.Char.{is_ascii_alphanumeric}
use Rattle.text_lines.specs.declared.bytes.WordKind.{WordKind}
use Rattle.text_lines.specs.declared.bytes.WordKind.TheVariants as kind

-- a space or a tab
abbrev pub is_blank : ℕ → Bool
is_blank b = (b == 32) || (b == 9)

-- it may stand outside a comment
abbrev pub is_allowed : ℕ → Bool
is_allowed b = (b == 9) || (nat_le 32 b && nat_le b 126)

-- it may stand in a word of that kind
abbrev pub takes : WordKind → ℕ → Bool
takes kind.Solid b = not (is_blank b)
takes kind.Key b = is_ascii_alphanumeric b
takes kind.Name b =
    not (is_blank b || (b == 40) || (b == 41) || (b == 44) || (b == 61) || (b == 58))
takes kind.Side b = not (is_blank b || (b == 40) || (b == 61))
takes kind.Action b = not (is_blank b || (b == 40))
takes kind.Argument b = not (b == 41)
takes kind.Choice b = not (is_blank b || (b == 41) || (b == 44))
takes kind.Chord b = not (is_blank b || (b == 41) || (b == 44) || (b == 43))

-- the longest front of bytes that pass, and what follows it
abbrev pub front : (ℕ → Bool) → List ℕ → List ℕ
front p xs = take (prefix_len p xs) xs

abbrev pub behind : (ℕ → Bool) → List ℕ → List ℕ
behind p xs = drop (prefix_len p xs) xs

-- without the blanks at the front
abbrev pub unblanked : List ℕ → List ℕ
unblanked [] = []
unblanked (b ∷ bs) = if is_blank b then unblanked bs else b ∷ bs

-- no blank stands at the front
abbrev pub is_tight : List ℕ → Bool
is_tight [] = true
is_tight (b ∷ bs) = not (is_blank b)
