-- A trigger is read exactly where it is spelled.
use Rattle.std.proofs.Common.{◌≡◌, ℕ, false, ◌||◌, List, Result, Ok, refl, ap, subst}
use Rattle.text_lines.specs.Reading.{◌>>=◌}
use Rattle.hotkey_rules.specs.declared.trigger.Trigger.{Trigger}
use Rattle.hotkey_rules.specs.declared.trigger.Trigger.TheVariants as trigger
use Rattle.hotkey_text.specs.declared.chords.KeyChord.{KeyChord}
use Rattle.hotkey_text.specs.declared.chords.MouseChord.{MouseChord}
use Rattle.hotkey_text.specs.declared.faults.HotkeyFault.{HotkeyFault}
use Rattle.hotkey_text.specs.declared.faults.HotkeyKind.TheVariants as kind
use Rattle.hotkey_text.specs.declared.names.TriggerKind.{TriggerKind}
use Rattle.hotkey_text.specs.declared.names.TriggerKind.TheVariants as trigger_kind
use Rattle.hotkey_text.specs.Faults.{unless}
use Rattle.hotkey_text.specs.Chords.{key_chord_at, mouse_chord_at}
use Rattle.hotkey_text.specs.Shapes.{HotkeyForm, has_some}
use Rattle.hotkey_text.specs.Arguments.{trigger_at, trigger_of}
use Rattle.hotkey_text.specs.SpellingWords.{SpellsChord, SpellsTrigger}
use Rattle.hotkey_text.proofs.WordSteps.{test_passed}
use Rattle.hotkey_text.proofs.WordSteps.{went}
use Rattle.hotkey_text.proofs.SpelledChords.{key_chord_takes, key_chord_read, mouse_chord_takes}
use Rattle.hotkey_text.proofs.SpelledChords.{mouse_chord_read}

chord_takes : (of : TriggerKind) (xs : List ℕ) (t : Trigger) → trigger_at of xs ≡ Ok t
    → SpellsChord of xs t
chord_takes trigger_kind.Key xs t e =
    let chord = went (key_chord_at false xs) _ t e in
    let same : trigger.Key chord.0.id chord.0.mods ≡ t = cc in
    subst (SpellsChord trigger_kind.Key xs) same (key_chord_takes false xs chord.0 chord.1)
chord_takes trigger_kind.Mouse xs t e =
    let chord = went (mouse_chord_at xs) _ t e in
    let same : trigger.Mouse chord.0.b chord.0.mods ≡ t = cc in
    subst (SpellsChord trigger_kind.Mouse xs) same (mouse_chord_takes xs chord.0 chord.1)

abbrev as_key : Result KeyChord HotkeyFault → Result Trigger HotkeyFault
as_key r = r >>= λ c. Ok (trigger.Key c.id c.mods)

abbrev as_mouse : Result MouseChord HotkeyFault → Result Trigger HotkeyFault
as_mouse r = r >>= λ c. Ok (trigger.Mouse c.b c.mods)

chord_read : (of : TriggerKind) (xs : List ℕ) (t : Trigger) → SpellsChord of xs t
    → trigger_at of xs ≡ Ok t
chord_read trigger_kind.Key xs (trigger.Key id mods) s =
    ap as_key (key_chord_read false xs (record { id = id; mods = mods }) s)
chord_read trigger_kind.Mouse xs (trigger.Mouse b mods) s =
    ap as_mouse (mouse_chord_read xs (record { b = b; mods = mods }) s)
chord_read trigger_kind.Key xs (trigger.Mouse b mods) s = absurd s
chord_read trigger_kind.Mouse xs (trigger.Key id mods) s = absurd s

pub trigger_takes : (line : HotkeyForm) (t : Trigger) → trigger_of line ≡ Ok t
    → SpellsTrigger line t
unfolding trigger_of
trigger_takes line t e =
    let first = went (trigger_at line.kind line.argument) _ t e in
    let second =
    went (unless (line.released || has_some line.press) kind.BadValue 0) (λ u. Ok first.0) t
    first.2 in
    let same : first.0 ≡ t = cc in (
      subst (SpellsChord line.kind line.argument) same
          (chord_takes line.kind line.argument first.0 first.1),
      test_passed _ _ _ second.0 second.1,
    )

pub trigger_read : (line : HotkeyForm) (t : Trigger) → SpellsTrigger line t → trigger_of line ≡ Ok t
unfolding trigger_of
trigger_read line t (chord, some) = rw (chord_read line.kind line.argument t chord, some) refl
