-- The lines of a script's events.
use Rattle.std.specs.Prelude.{ℕ, ℤ, ◌+◌, ◌%◌, ◌==◌, Bool, false, if◌then◌else◌, List, [], ◌∷◌, ◌++◌, count_by, codes}
use Rattle.std.specs.List.{join_with_byte, range_with_len}
use Rattle.std.specs.Fmt.{decimal, signed_decimal}
use Rattle.share_base.specs.Hex.{hex}
use Rattle.generated_texts.specs.declared.event.Event.{Event}
use Rattle.generated_texts.specs.declared.event.Event.TheVariants.{Motion, Wheel, Key, Button, Copy}

-- words with a blank between each two, and a newline
abbrev pub line : List (List ℕ) → List ℕ
line words = join_with_byte 32 words ++ 10 ∷ []

-- ---- what is down

abbrev pub is_of_key : ℕ → Event → Bool
is_of_key b (Key button) = button == b
is_of_key b _ = false

abbrev pub is_of_button : ℕ → Event → Bool
is_of_button b (Button button) = button == b
is_of_button b _ = false

-- the events of a key's button, or of a mouse button, bring it down and up in turn
abbrev pub is_key_down : List Event → ℕ → Bool
is_key_down events b = count_by (is_of_key b) events % 2 == 1

abbrev pub is_button_down : List Event → ℕ → Bool
is_button_down events b = count_by (is_of_button b) events % 2 == 1

-- ---- lines

-- a key's id is 96 more than its button
abbrev pub key_line : Bool → ℕ → List ℕ
key_line is_down b = if is_down then line (codes "key" ∷ codes "up" ∷ decimal b ∷ [])
    else line (codes "key" ∷ codes "down" ∷ decimal (96 + b) ∷ decimal b ∷ [])

abbrev pub button_line : Bool → ℕ → List ℕ
button_line is_down b = line
    (codes "button" ∷ (if is_down then codes "up" else codes "down") ∷ decimal b ∷ [])

abbrev pub motion_line : ℤ → ℤ → List ℕ
motion_line dx dy = line (codes "motion" ∷ signed_decimal dx ∷ signed_decimal dy ∷ [])

-- the bytes 0, 1, 2 and so on, so many of them, to the first clipboard
abbrev pub copy_line : ℕ → List ℕ
copy_line count = line (codes "copy" ∷ codes "0" ∷ hex (range_with_len 0 count) ∷ [])

-- the line of an event that follows these events
unfoldable pub line_after : List Event → Event → List ℕ
line_after events (Motion dx dy) = motion_line dx dy
line_after events Wheel = line (codes "wheel" ∷ codes "0" ∷ codes "120" ∷ [])
line_after events (Key b) = key_line (is_key_down events b) b
line_after events (Button b) = button_line (is_button_down events b) b
line_after events (Copy count) = copy_line count
