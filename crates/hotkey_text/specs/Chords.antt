-- Modifiers with a + behind each, and the key or the number behind them.
use Rattle.std.specs.Prelude.{ℕ, Bool, not, ◌==◌, ◌&&◌, if◌then◌else◌, List, [], ◌∷◌, length}
use Rattle.std.specs.Prelude.{Result, Ok, Option, Some, None, codes, bit_and, bit_or}
use Rattle.std.specs.List.{find}
use Rattle.share_base.specs.declared.numbers.KeyId.{KeyId}
use Rattle.share_base.specs.declared.numbers.Mask.{Mask}
use Rattle.share_base.specs.declared.numbers.MouseButton.{MouseButton}
use Rattle.share_base.specs.Names.{same_name}
use Rattle.modifier_map.specs.declared.class.ModClass.{ModClass}
use Rattle.modifier_map.specs.declared.class.ModClass.TheVariants as class
use Rattle.modifier_map.specs.Table.{row, all_classes}
use Rattle.text_lines.specs.Numbers.{decimal_of}
use Rattle.text_lines.specs.Reading.{◌>>=◌, Text, begins}
use Rattle.hotkey_text.specs.declared.faults.HotkeyFault.{HotkeyFault}
use Rattle.hotkey_text.specs.declared.faults.HotkeyKind.TheVariants as kind
use Rattle.hotkey_text.specs.declared.chords.KeyChord.{KeyChord}
use Rattle.hotkey_text.specs.declared.chords.MouseChord.{MouseChord}
use Rattle.hotkey_text.specs.ChordWords.{ChordWords, chord_words}
use Rattle.hotkey_text.specs.Faults.{unless, or_fault}
use Rattle.hotkey_text.specs.Keys.{key_named}
use Rattle.hotkey_rules.specs.WellFormed.{is_modifier_key}

abbrev pub mask : ℕ → Mask
mask n = record { 0 = n }

abbrev pub class_word : ModClass → List ℕ
class_word class.Shift = codes "Shift"
class_word class.Control = codes "Control"
class_word class.Alt = codes "Alt"
class_word class.Meta = codes "Meta"
class_word class.Super = codes "Super"

-- the class of that name, in capital or small letters
unfoldable pub class_named : List ℕ → Option ModClass
class_named word = find (λ c. same_name (class_word c) word) all_classes

abbrev pub has_class : Mask → ModClass → Bool
has_class mods c = not (bit_and mods.0 (row c).bit == 0)

-- the mask with one class more, which it may not have already
abbrev pub with_class : Mask → Option ModClass → Option Mask
with_class mods None = None
with_class mods (Some c) =
    if has_class mods c then None else Some (mask (bit_or mods.0 (row c).bit))

-- the mask with the modifier of that word more
unfoldable pub with_modifier : Mask → Text → Result Mask HotkeyFault
with_modifier mods word = or_fault (with_class mods (class_named word.text)) kind.BadValue word.left

-- the mask with the modifiers of these words more, each of the five once at most
unfoldable pub mods_of : Mask → List Text → Result Mask HotkeyFault
mods_of mods [] = Ok mods
mods_of mods (word ∷ words) = with_modifier mods word >>= λ next. mods_of next words

-- with the modifiers of a chord's words, its last word, and what follows that
abbrev pub with_last : Mask → ChordWords → Result (Mask × Text × List ℕ) HotkeyFault
with_last mods words = mods_of mods words.mods >>= λ all. Ok (all, words.last, words.rest)

-- the modifiers in front of the last word, that word, and what follows it
unfoldable pub mods_at : List ℕ → Result (Mask × Text × List ℕ) HotkeyFault
mods_at xs = with_last (mask 0) (chord_words xs)

-- no further word stands before the )
abbrev pub closed_at : List ℕ → Result (Unit {0}) HotkeyFault
closed_at xs = unless (begins 41 xs) kind.BadValue (length xs)

-- ---- MODS+KEY, where the key may be one of the modifiers, or not

abbrev pub allowed : Bool → Option KeyId → Option KeyId
allowed modifiers None = None
allowed modifiers (Some id) = if not modifiers && is_modifier_key id then None else Some id

unfoldable pub key_chord_at : Bool → List ℕ → Result KeyChord HotkeyFault
key_chord_at modifiers xs = do
  chord ← mods_at xs
  id ← or_fault (allowed modifiers (key_named chord.1.text)) kind.UnknownKey chord.1.left
  _ ← closed_at chord.2
  Ok (record { id = id; mods = chord.0 })

-- ---- MODS+NUMBER, of 1 to 255

abbrev pub button_of : Option ℕ → Option MouseButton
button_of None = None
button_of (Some n) = if n == 0 then None else Some (record { 0 = n })

unfoldable pub mouse_chord_at : List ℕ → Result MouseChord HotkeyFault
mouse_chord_at xs = do
  chord ← mods_at xs
  b ← or_fault (button_of (decimal_of 255 chord.1.text)) kind.BadValue chord.1.left
  _ ← closed_at chord.2
  Ok (record { b = b; mods = chord.0 })
