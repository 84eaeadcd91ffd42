-- The words in a hotkey's brackets, in their own words. Each list of bytes here is the line from
-- there on.
use Rattle.std.specs.Prelude.{◌≡◌, ◌≢◌, ℕ, ◌+◌, ◌≤◌, ◌<◌, Bool, true, false, ◌||◌, if◌then◌else◌}
use Rattle.std.specs.Prelude.{List, [], ◌∷◌, ◌++◌, length, Some, None, ◌⊎◌}
use Rattle.std.specs.Fmt.{decimal}
use Rattle.share_base.specs.Names.{same_name}
use Rattle.share_base.specs.Sides.{side_text}
use Rattle.share_base.specs.declared.shape.Side.{Side}
use Rattle.modifier_map.specs.declared.class.ModClass.{ModClass}
use Rattle.modifier_map.specs.Table.{row}
use Rattle.text_lines.specs.declared.bytes.WordKind.TheVariants as kind
use Rattle.text_lines.specs.Bytes.{takes, front, is_tight}
use Rattle.text_lines.specs.Reading.{begins}
use Rattle.text_lines.specs.Spelling.{IsGap, IsWord}
use Rattle.hotkey_rules.specs.declared.action.LockMode.{LockMode}
use Rattle.hotkey_rules.specs.declared.trigger.Trigger.{Trigger}
use Rattle.hotkey_rules.specs.declared.trigger.Trigger.TheVariants as trigger
use Rattle.hotkey_text.specs.declared.chords.KeyChord.{KeyChord}
use Rattle.hotkey_text.specs.declared.chords.MouseChord.{MouseChord}
use Rattle.hotkey_text.specs.declared.names.ActionName.{ActionName}
use Rattle.hotkey_text.specs.declared.names.ActionName.TheVariants as name
use Rattle.hotkey_text.specs.declared.names.TriggerKind.{TriggerKind}
use Rattle.hotkey_text.specs.declared.names.TriggerKind.TheVariants as trigger_kind
use Rattle.hotkey_text.specs.Names.{action_word}
use Rattle.hotkey_text.specs.LockModes.{lock_word}
use Rattle.hotkey_text.specs.Keys.{key_named}
use Rattle.hotkey_rules.specs.WellFormed.{is_modifier_key}
use Rattle.hotkey_text.specs.Chords.{mask, class_word}
use Rattle.hotkey_text.specs.Shapes.{ActionForm, HotkeyForm, has_some}
use Rattle.hotkey_text.specs.Arguments.{ScreenText, ActionText, Key, Mouse, Lock, SwitchTo}
use Rattle.hotkey_text.specs.Arguments.{SwitchToward}

-- a word, and what follows the gap behind it
pub record SpellsWord (xs word rest : List ℕ) : Type 0 where
  pub behind_word : List ℕ
  pub text : xs ≡ word ++ (behind_word ++ rest)
  pub gap : IsGap behind_word

-- a word with a ) behind it
abbrev pub SpellsLast : List ℕ → List ℕ → Type 0
SpellsLast xs word = (rest : List ℕ) × SpellsWord xs word (41 ∷ rest)

-- ---- modifiers

-- the name of a class, in capital or small letters, with a + behind it
pub record SpellsMod (xs : List ℕ) (c : ModClass) (rest : List ℕ) : Type 0 where
  pub word : List ℕ
  pub behind_sign : List ℕ
  pub names : same_name (class_word c) word ≡ true
  pub text : SpellsWord xs word (43 ∷ (behind_sign ++ rest))
  pub gap : IsGap behind_sign

abbrev pub SpellsMods : List ℕ → List ModClass → List ℕ → Type 0
SpellsMods xs [] rest = xs ≡ rest
SpellsMods xs (c ∷ classes) rest =
    (behind : List ℕ) × SpellsMod xs c behind × SpellsMods behind classes rest

abbrev pub IsNone : ModClass → List ModClass → Type 0
IsNone c [] = Unit {0}
IsNone c (d ∷ classes) = (c ≢ d) × IsNone c classes

-- no class stands twice
abbrev pub AreApart : List ModClass → Type 0
AreApart [] = Unit {0}
AreApart (c ∷ classes) = IsNone c classes × AreApart classes

-- the sum of their bits
abbrev pub bits_of : List ModClass → ℕ
bits_of [] = 0
bits_of (c ∷ classes) = (row c).bit + bits_of classes

-- ---- MODS+KEY and MODS+NUMBER, up to the )

pub record SpellsKeyChord (modifiers : Bool) (xs : List ℕ) (chord : KeyChord) : Type 0 where
  pub classes : List ModClass
  pub here : List ℕ
  pub word : List ℕ
  pub mods : SpellsMods xs classes here
  pub apart : AreApart classes
  pub bits : chord.mods ≡ mask (bits_of classes)
  pub last : SpellsLast here word
  pub run : IsWord (takes kind.Chord) word
  pub key : key_named word ≡ Some chord.id
  pub may_be : (modifiers ≡ true) ⊎ (is_modifier_key chord.id ≡ false)

pub record SpellsMouseChord (xs : List ℕ) (chord : MouseChord) : Type 0 where
  pub classes : List ModClass
  pub here : List ℕ
  pub mods : SpellsMods xs classes here
  pub apart : AreApart classes
  pub bits : chord.mods ≡ mask (bits_of classes)
  pub last : SpellsLast here (decimal chord.b.0)
  pub number : (1 ≤ chord.b.0) × (chord.b.0 ≤ 255)

-- ---- triggers

abbrev pub SpellsChord : TriggerKind → List ℕ → Trigger → Type 0
SpellsChord trigger_kind.Key xs (trigger.Key id mods) =
    SpellsKeyChord false xs (record { id = id; mods = mods })
SpellsChord trigger_kind.Mouse xs (trigger.Mouse b mods) =
    SpellsMouseChord xs (record { b = b; mods = mods })
SpellsChord of xs t = ⊥

-- its trigger; and a list of actions stands there, or a ;
abbrev pub SpellsTrigger : HotkeyForm → Trigger → Type 0
SpellsTrigger line t =
    SpellsChord line.kind line.argument t × ((line.released || has_some line.press) ≡ true)

-- ---- actions

-- the word of a screen, which others look up, and the place of a further word where no ) follows
pub record SpellsScreen (xs : List ℕ) (s : ScreenText) : Type 0 where
  pub rest : List ℕ
  pub text : SpellsWord xs s.word.text rest
  pub longest : s.word.text ≡ front (takes kind.Choice) xs
  pub some : 0 < length s.word.text
  pub tight : is_tight rest ≡ true
  pub further : s.further ≡ (if begins 41 rest then None else Some (length rest))
  pub place : s.word.left ≡ length xs

abbrev pub SpellsArgument : ActionName → List ℕ → ActionText → Type 0
SpellsArgument (name.Key deed) xs text =
    (c : KeyChord) × SpellsKeyChord true xs c × (text ≡ Key deed c.id c.mods)
SpellsArgument (name.Mouse deed) xs text =
    (c : MouseChord) × SpellsMouseChord xs c × (text ≡ Mouse deed c.b c.mods)
SpellsArgument name.Lock xs text = (m : LockMode) × SpellsLast xs (lock_word m) × (text ≡ Lock m)
SpellsArgument name.SwitchTo xs text = (s : ScreenText) × SpellsScreen xs s × (text ≡ SwitchTo s)
SpellsArgument name.SwitchToward xs text =
    (s : Side) × SpellsLast xs (side_text s) × (text ≡ SwitchToward s)

abbrev pub SpellsWords : ActionForm → ActionText → Type 0
SpellsWords form text =
    (n : ActionName) × (form.word.text ≡ action_word n) × SpellsArgument n form.argument text
