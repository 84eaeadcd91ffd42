-- The words of an action are read exactly where they are spelled.
use Rattle.std.proofs.Common.{◌≡◌, ℕ, true, List, Some, Result, Ok, ap, sym, ◌∙◌}
use Rattle.text_lines.specs.Reading.{◌>>=◌}
use Rattle.hotkey_text.specs.declared.faults.HotkeyFault.{HotkeyFault}
use Rattle.hotkey_text.specs.declared.faults.HotkeyKind.TheVariants as kind
use Rattle.hotkey_text.specs.declared.names.ActionName.{ActionName}
use Rattle.hotkey_text.specs.declared.names.ActionName.TheVariants as name
use Rattle.hotkey_text.specs.Faults.{or_fault}
use Rattle.hotkey_text.specs.Names.{action_word, action_names, action_named}
use Rattle.hotkey_text.specs.Chords.{key_chord_at, mouse_chord_at}
use Rattle.hotkey_text.specs.Shapes.{ActionForm}
use Rattle.hotkey_text.specs.Arguments.{ActionText, Key, Mouse, Lock, SwitchTo, SwitchToward}
use Rattle.hotkey_text.specs.Arguments.{lock_at, side_at, screen_at, argument_of, action_of}
use Rattle.hotkey_text.specs.SpellingWords.{SpellsArgument, SpellsWords}
use Rattle.hotkey_text.proofs.WordsFound.{action_found}
use Rattle.hotkey_text.proofs.WordSteps.{table_word}
use Rattle.hotkey_text.proofs.WordSteps.{went, there}
use Rattle.hotkey_text.proofs.SpelledChords.{key_chord_takes, key_chord_read, mouse_chord_takes}
use Rattle.hotkey_text.proofs.SpelledChords.{mouse_chord_read}
use Rattle.hotkey_text.proofs.SpelledArguments.{lock_takes, lock_read, side_takes, side_read}
use Rattle.hotkey_text.proofs.SpelledArguments.{screen_takes, screen_read}

-- what a reader gave, it gave by what its one step gave
argument_takes : (n : ActionName) (xs : List ℕ) (text : ActionText) → argument_of n xs ≡ Ok text
    → SpellsArgument n xs text
argument_takes (name.Key deed) xs text e =
    let chord = went (key_chord_at true xs) _ text e in
    let same : Key deed chord.0.id chord.0.mods ≡ text = cc in
    (chord.0, key_chord_takes true xs chord.0 chord.1, sym same)
argument_takes (name.Mouse deed) xs text e =
    let chord = went (mouse_chord_at xs) _ text e in
    let same : Mouse deed chord.0.b chord.0.mods ≡ text = cc in
    (chord.0, mouse_chord_takes xs chord.0 chord.1, sym same)
argument_takes name.Lock xs text e =
    let mode = went (lock_at xs) _ text e in
    let same : Lock mode.0 ≡ text = cc in
    (mode.0, lock_takes xs mode.0 mode.1, sym same)
argument_takes name.SwitchTo xs text e =
    let screen = went (screen_at xs) _ text e in
    let same : SwitchTo screen.0 ≡ text = cc in
    (screen.0, screen_takes xs screen.0 screen.1, sym same)
argument_takes name.SwitchToward xs text e =
    let side = went (side_at xs) _ text e in
    let same : SwitchToward side.0 ≡ text = cc in
    (side.0, side_takes xs side.0 side.1, sym same)

-- one step that goes well, and what it makes
made_of : {A B : Type 0} (r : Result A HotkeyFault) (f : A → B) (x : A) (y : B) → r ≡ Ok x → y ≡ f x
    → (r >>= λ a. Ok (f a)) ≡ Ok y
made_of r f x y e s = ap (λ (q : Result _ HotkeyFault). q >>= λ a. Ok (f a)) e ∙ ap Ok (sym s)

argument_read : (n : ActionName) (xs : List ℕ) (text : ActionText) → SpellsArgument n xs text
    → argument_of n xs ≡ Ok text
argument_read (name.Key deed) xs text (chord, spells, is) =
    made_of (key_chord_at true xs) (λ c. Key deed c.id c.mods) chord text
    (key_chord_read true xs chord spells) is
argument_read (name.Mouse deed) xs text (chord, spells, is) =
    made_of (mouse_chord_at xs) (λ c. Mouse deed c.b c.mods) chord text
    (mouse_chord_read xs chord spells) is
argument_read name.Lock xs text (mode, spells, is) =
    made_of (lock_at xs) Lock mode text (lock_read xs mode spells) is
argument_read name.SwitchTo xs text (screen, spells, is) =
    made_of (screen_at xs) SwitchTo screen text (screen_read xs screen spells) is
argument_read name.SwitchToward xs text (side, spells, is) =
    made_of (side_at xs) SwitchToward side text (side_read xs side spells) is

pub action_takes : (form : ActionForm) (text : ActionText) → action_of form ≡ Ok text
    → SpellsWords form text
unfolding action_of
action_takes form text e =
    let first =
    went (or_fault (action_named form.word.text) kind.UnknownAction form.word.left)
    (λ n. argument_of n form.argument) text e in (
      first.0,
      table_word action_word action_names form.word.text first.0 (there _ _ _ first.0 first.1),
      argument_takes first.0 form.argument text first.2,
    )

pub action_read : (form : ActionForm) (text : ActionText) → SpellsWords form text
    → action_of form ≡ Ok text
unfolding action_of
action_read form text (n, word, argument) =
    let named : action_named form.word.text ≡ Some n = ap action_named word ∙ action_found n in
    rw named (argument_read n form.argument text argument)
