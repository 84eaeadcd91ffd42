-- What the words of a hotkey's line mean, from left to right: the first fault is that of the line.
use Rattle.std.specs.Prelude.{ℕ, true, false, not, ◌||◌, if◌then◌else◌, List, length, Result, Ok}
use Rattle.std.specs.Prelude.{Option, Some, None}
use Rattle.share_base.specs.declared.numbers.KeyId.{KeyId}
use Rattle.share_base.specs.declared.numbers.Mask.{Mask}
use Rattle.share_base.specs.declared.numbers.MouseButton.{MouseButton}
use Rattle.share_base.specs.declared.shape.Side.{Side}
use Rattle.text_lines.specs.declared.bytes.WordKind.TheVariants as word_kind
use Rattle.text_lines.specs.Bytes.{takes}
use Rattle.text_lines.specs.Reading.{◌>>=◌, Text, run_at, begins, is_empty}
use Rattle.hotkey_rules.specs.declared.action.LockMode.{LockMode}
use Rattle.hotkey_rules.specs.declared.trigger.Trigger.{Trigger}
use Rattle.hotkey_rules.specs.declared.trigger.Trigger.TheVariants as trigger
use Rattle.hotkey_text.specs.declared.names.Deed.{Deed}
use Rattle.hotkey_text.specs.declared.names.ActionName.{ActionName}
use Rattle.hotkey_text.specs.declared.names.ActionName.TheVariants as name
use Rattle.hotkey_text.specs.declared.names.TriggerKind.{TriggerKind}
use Rattle.hotkey_text.specs.declared.names.TriggerKind.TheVariants as trigger_kind
use Rattle.hotkey_text.specs.declared.faults.HotkeyFault.{HotkeyFault}
use Rattle.hotkey_text.specs.declared.faults.HotkeyKind.TheVariants as kind
use Rattle.hotkey_text.specs.Faults.{unless, or_fault}
use Rattle.hotkey_text.specs.Names.{action_named}
use Rattle.hotkey_text.specs.LockModes.{lock_named}
use Rattle.share_base.specs.Sides.{side_named}
use Rattle.hotkey_text.specs.Chords.{key_chord_at, mouse_chord_at, closed_at}
use Rattle.hotkey_text.specs.Shapes.{ActionForm, HotkeyForm, has_some}

-- ---- the trigger

abbrev pub trigger_at : TriggerKind → List ℕ → Result Trigger HotkeyFault
trigger_at trigger_kind.Key xs = key_chord_at false xs >>= λ c. Ok (trigger.Key c.id c.mods)
trigger_at trigger_kind.Mouse xs = mouse_chord_at xs >>= λ c. Ok (trigger.Mouse c.b c.mods)

-- the trigger of a line; and without a list of actions something is missing at the line's end
unfoldable pub trigger_of : HotkeyForm → Result Trigger HotkeyFault
trigger_of line = do
  trigger ← trigger_at line.kind line.argument
  _ ← unless (line.released || has_some line.press) kind.BadValue 0
  Ok trigger

-- ---- actions

-- the word of a screen, and how many bytes were left where a further word stands
pub record ScreenText : Type 0 where
  pub word : Text
  pub further : Option ℕ

-- what an action's words mean. A screen's word is looked up elsewhere, and only where a screen has
-- it is a further word behind it the fault.
pub data ActionText : Type 0 where
  Key : Deed → KeyId → Mask → ActionText
  Mouse : Deed → MouseButton → Mask → ActionText
  Lock : LockMode → ActionText
  SwitchTo : ScreenText → ActionText
  SwitchToward : Side → ActionText

unfoldable pub lock_at : List ℕ → Result LockMode HotkeyFault
lock_at xs = let word = run_at (takes word_kind.Choice) xs in do
  mode ← or_fault (lock_named word.0.text) kind.BadValue word.0.left
  _ ← closed_at word.1
  Ok mode

unfoldable pub side_at : List ℕ → Result Side HotkeyFault
side_at xs = let word = run_at (takes word_kind.Choice) xs in do
  side ← or_fault (side_named word.0.text) kind.BadValue word.0.left
  _ ← closed_at word.1
  Ok side

unfoldable pub screen_at : List ℕ → Result ScreenText HotkeyFault
screen_at xs = let word = run_at (takes word_kind.Choice) xs in do
  _ ← unless (not (is_empty word.0.text)) kind.UnknownScreen word.0.left
  Ok (record { word = word.0; further = if begins 41 word.1 then None else Some (length word.1) })

abbrev pub argument_of : ActionName → List ℕ → Result ActionText HotkeyFault
argument_of (name.Key d) xs = key_chord_at true xs >>= λ c. Ok (Key d c.id c.mods)
argument_of (name.Mouse d) xs = mouse_chord_at xs >>= λ c. Ok (Mouse d c.b c.mods)
argument_of name.Lock xs = lock_at xs >>= λ m. Ok (Lock m)
argument_of name.SwitchTo xs = screen_at xs >>= λ s. Ok (SwitchTo s)
argument_of name.SwitchToward xs = side_at xs >>= λ s. Ok (SwitchToward s)

unfoldable pub action_of : ActionForm → Result ActionText HotkeyFault
action_of form = do
  name ← or_fault (action_named form.word.text) kind.UnknownAction form.word.left
  argument_of name form.argument
