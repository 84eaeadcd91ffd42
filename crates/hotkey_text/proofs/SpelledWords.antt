-- What words of a hotkey's line mean is a trigger or an action that a text can spell.
use Rattle.std.proofs.Common.{◌≡◌, ℕ, ◌+◌, ◌<◌, Bool, true, false, ◌&&◌, ◌==◌, List, [], ◌∷◌}
use Rattle.std.proofs.Common.{Option, Some, None, Ok, refl, ap, ◌∙◌, inl, inr, arith}
use Rattle.std.specs.Char.{is_ascii_hexdigit, digit_value}
use Rattle.std.proofs.lemmas.Bool.{and_parts, and_from, cond_both, eqb-false, lt-ltb}
use Rattle.std.proofs.lemmas.Bool.{not_from_false}
use Rattle.std.proofs.lemmas.Bool.Decides.{nat_tests}
use Rattle.share_base.specs.declared.numbers.KeyId.{KeyId}
use Rattle.share_base.specs.declared.numbers.Mask.{Mask}
use Rattle.modifier_map.specs.declared.class.ModClass.{ModClass}
use Rattle.hotkey_rules.specs.KeyNames.{NamedKey, named_keys, key_of_name, row as row_of}
use Rattle.hotkey_rules.proofs.KeyRows.{named}
use Rattle.hotkey_rules.specs.declared.trigger.Trigger.{Trigger}
use Rattle.hotkey_rules.specs.declared.trigger.Trigger.TheVariants as trigger
use Rattle.hotkey_text.specs.declared.chords.KeyChord.{KeyChord}
use Rattle.hotkey_text.specs.declared.chords.MouseChord.{MouseChord}
use Rattle.hotkey_text.specs.declared.names.ActionName.{ActionName}
use Rattle.hotkey_text.specs.declared.names.ActionName.TheVariants as name
use Rattle.hotkey_text.specs.declared.names.TriggerKind.{TriggerKind}
use Rattle.hotkey_text.specs.declared.names.TriggerKind.TheVariants as trigger_kind
use Rattle.hotkey_text.specs.Keys.{is_plain, plain_key, key_id, four_digits, unless_zero}
use Rattle.hotkey_text.specs.Keys.{number_of_digits, coded_key, first_of, key_named}
use Rattle.hotkey_text.specs.Chords.{mask}
use Rattle.hotkey_text.specs.Arguments.{trigger_of, ActionText, Key, Mouse, Lock, SwitchTo}
use Rattle.hotkey_text.specs.Arguments.{SwitchToward, action_of}
use Rattle.hotkey_text.specs.Shapes.{ActionForm, HotkeyForm}
use Rattle.hotkey_rules.specs.WellFormed.{are_mods, is_key, is_mouse_button, is_key_chord}
use Rattle.hotkey_rules.specs.WellFormed.{is_mouse_chord, is_trigger, is_modifier_key}
use Rattle.hotkey_text.specs.SpellingWords.{AreApart, bits_of, SpellsKeyChord, SpellsMouseChord}
use Rattle.hotkey_text.specs.SpellingWords.{SpellsChord, SpellsArgument}
use Rattle.hotkey_text.proofs.ArgumentBytes.{each_byte, plain_below}
use Rattle.hotkey_text.proofs.FreeClasses.{grown, AreNew, all_new, grown_small, new_adds}
use Rattle.hotkey_text.proofs.FreeClasses.{new_behind}
use Rattle.hotkey_text.proofs.SpelledActions.{action_takes}
use Rattle.hotkey_text.proofs.SpelledTriggers.{trigger_takes}
use Rattle.hotkey_text.proofs.WordsFound.{listed_passes}

-- ---- modifiers

bits_small : (m : Mask) (cs : List ModClass) → m.0 < 32 → AreApart cs → AreNew m cs
    → m.0 + bits_of cs < 32
bits_small m [] h apart new = omega arith
bits_small m (c ∷ cs) h apart new =
    omega (
      arith,
      new_adds m c h new.0,
      bits_small (grown m c) cs (grown_small m c h) apart.1 (new_behind m c cs apart.0 new.1),
    )

mods_sound : (mods : Mask) (cs : List ModClass) → AreApart cs → mods ≡ mask (bits_of cs)
    → are_mods mods ≡ true
mods_sound mods cs apart e =
    ap are_mods e
    ∙ lt-ltb (bits_of cs) 32
    (omega (arith, bits_small (mask 0) cs (omega arith) apart (all_new cs)))

-- ---- keys

abbrev GivesKey : Option KeyId → Type 0
GivesKey o = (id : KeyId) → o ≡ Some id → is_key id ≡ true

none_gives : GivesKey None
none_gives id e = absurd cc

some_gives : (n : ℕ) → is_key (key_id n) ≡ true → GivesKey (Some (key_id n))
some_gives n h id e = let same : id ≡ key_id n = cc in ap is_key same ∙ h

name_gives : (word : List ℕ) → GivesKey (key_of_name word)
unfolding named_keys
name_gives word id e =
    let n = named word id e in
    listed_passes (λ (k : NamedKey). is_key k.id) named_keys (row_of n.own id.0) refl n.listed

plain_gives : (word : List ℕ) → GivesKey (plain_key word)
plain_gives (b ∷ []) =
    cond_both (is_plain b) (Some (key_id b)) None GivesKey
    (λ p. some_gives b (each_byte is_plain (λ b. is_key (key_id b)) plain_below refl b p))
    (λ p. none_gives)
plain_gives _ = none_gives

digit_small : (b : ℕ) → is_ascii_hexdigit b ≡ true → digit_value b < 16
digit_small b h = grind (arith, nat_tests)

number_gives : (n : ℕ) → n < 65536 → GivesKey (unless_zero n)
number_gives n h =
    cond_both (n == 0) None (Some (key_id n)) GivesKey (λ z. none_gives)
    (λ z.
    some_gives n
    (and_from _ _ (lt-ltb 0 n (omega (arith, eqb-false n 0 z))) (lt-ltb n 65536 h)))

digits_give : (a b c d : ℕ) → GivesKey (number_of_digits a b c d)
digits_give a b c d =
    cond_both
    (is_ascii_hexdigit a && is_ascii_hexdigit b && is_ascii_hexdigit c && is_ascii_hexdigit d)
    (unless_zero (four_digits a b c d)) None GivesKey (λ h.
    let three =
    and_parts (is_ascii_hexdigit a && is_ascii_hexdigit b && is_ascii_hexdigit c)
    (is_ascii_hexdigit d) h in
    let two =
    and_parts (is_ascii_hexdigit a && is_ascii_hexdigit b) (is_ascii_hexdigit c) three.0 in
    let one = and_parts (is_ascii_hexdigit a) (is_ascii_hexdigit b) two.0 in
    number_gives (four_digits a b c d)
    (omega (
      arith,
      digit_small a one.0,
      digit_small b one.1,
      digit_small c two.1,
      digit_small d three.1,
    )))
    (λ h. none_gives)

coded_gives : (word : List ℕ) → GivesKey (coded_key word)
coded_gives (s ∷ u ∷ a ∷ b ∷ c ∷ d ∷ []) =
    cond_both ((s == 92) && (u == 117)) (number_of_digits a b c d) None GivesKey
    (λ h. digits_give a b c d) (λ h. none_gives)
coded_gives _ = none_gives

first_gives : (one other : Option KeyId) → GivesKey one → GivesKey other
    → GivesKey (first_of one other)
first_gives (Some k) other p q = p
first_gives None other p q = q

word_gives : (word : List ℕ) → GivesKey (key_named word)
unfolding key_named
word_gives word =
    first_gives (key_of_name word) (first_of (plain_key word) (coded_key word)) (name_gives word)
    (first_gives (plain_key word) (coded_key word) (plain_gives word) (coded_gives word))

-- ---- a key or a button with modifiers

key_chord_sound : (modifiers : Bool) (xs : List ℕ) (chord : KeyChord)
    → SpellsKeyChord modifiers xs chord → is_key_chord chord.id chord.mods ≡ true
key_chord_sound modifiers xs chord s =
    and_from (is_key chord.id) (are_mods chord.mods) (word_gives s.word chord.id s.key)
    (mods_sound chord.mods s.classes s.apart s.bits)

mouse_chord_sound : (xs : List ℕ) (chord : MouseChord) → SpellsMouseChord xs chord
    → is_mouse_chord chord.b chord.mods ≡ true
mouse_chord_sound xs chord s =
    and_from (is_mouse_button chord.b) (are_mods chord.mods)
    (and_from _ _ (lt-ltb 0 chord.b.0 s.number.0)
    (lt-ltb chord.b.0 256 (omega (arith, s.number.1))))
    (mods_sound chord.mods s.classes s.apart s.bits)

-- ---- triggers

chord_sound : (of : TriggerKind) (xs : List ℕ) (t : Trigger) → SpellsChord of xs t
    → is_trigger t ≡ true
chord_sound trigger_kind.Key xs (trigger.Key id mods) s =
    let free : is_modifier_key id ≡ false = elim s.may_be [ inl e ↦ absurd cc | inr e ↦ e ] in
    and_from _ _ (key_chord_sound false xs (record { id = id; mods = mods }) s)
    (not_from_false (is_modifier_key id) free)
chord_sound trigger_kind.Mouse xs (trigger.Mouse b mods) s =
    mouse_chord_sound xs (record { b = b; mods = mods }) s
chord_sound trigger_kind.Key xs (trigger.Mouse b mods) s = absurd s
chord_sound trigger_kind.Mouse xs (trigger.Key id mods) s = absurd s

pub trigger_spelled : (line : HotkeyForm) (t : Trigger) → trigger_of line ≡ Ok t
    → is_trigger t ≡ true
trigger_spelled line t e = chord_sound line.kind line.argument t (trigger_takes line t e).0

-- ---- actions

abbrev pub are_words : ActionText → Bool
are_words (Key deed id mods) = is_key_chord id mods
are_words (Mouse deed b mods) = is_mouse_chord b mods
are_words (Lock mode) = true
are_words (SwitchTo screen) = true
are_words (SwitchToward side) = true

argument_sound : (n : ActionName) (xs : List ℕ) (text : ActionText) → SpellsArgument n xs text
    → are_words text ≡ true
argument_sound (name.Key deed) xs text (chord, s, is) =
    ap are_words is ∙ key_chord_sound true xs chord s
argument_sound (name.Mouse deed) xs text (chord, s, is) =
    ap are_words is ∙ mouse_chord_sound xs chord s
argument_sound name.Lock xs text (mode, s, is) = ap are_words is
argument_sound name.SwitchTo xs text (screen, s, is) = ap are_words is
argument_sound name.SwitchToward xs text (side, s, is) = ap are_words is

pub words_spelled : (form : ActionForm) (text : ActionText) → action_of form ≡ Ok text
    → are_words text ≡ true
words_spelled form text e =
    let w = action_takes form text e in argument_sound w.0 form.argument text w.2
