-- A hotkey's line judged: its words from left to right, and then the limits.
use Rattle.std.specs.Prelude.{ℕ, List, [], ◌∷◌, ◌++◌, Result, Ok, Err, Option, Some, None}
use Rattle.share_base.specs.declared.numbers.Button.{Button}
use Rattle.text_lines.specs.Reading.{◌>>=◌}
use Rattle.hotkey_rules.specs.declared.action.Action.{Action}
use Rattle.hotkey_rules.specs.declared.action.Action.TheVariants as action
use Rattle.hotkey_text.specs.declared.faults.HotkeyKind.{HotkeyKind}
use Rattle.hotkey_text.specs.declared.faults.HotkeyKind.TheVariants as hotkey_kind
use Rattle.hotkey_text.specs.declared.faults.HotkeyFault.{HotkeyFault}
use Rattle.hotkey_text.specs.Names.{key_action, mouse_action}
use Rattle.hotkey_text.specs.Shapes.{ActionForm, HotkeyForm}
use Rattle.hotkey_text.specs.Arguments as words
use Rattle.config_text.specs.declared.faults.ConfigKind.{ConfigKind}
use Rattle.config_text.specs.declared.faults.ConfigKind.TheVariants as kind
use Rattle.config_text.specs.declared.faults.Fault.{Fault}
use Rattle.screen_config.specs.Configurations.{Configuration, screen_of, with_hotkey}
use Rattle.config_text.specs.Judging.{fault_at, or_fault, unless}
use Rattle.screen_config.specs.AddingHotkeys.{has_room, next_rule}

-- ---- words

abbrev pub kind_of : HotkeyKind → ConfigKind
kind_of hotkey_kind.BadValue = kind.BadValue
kind_of hotkey_kind.UnknownKey = kind.UnknownKey
kind_of hotkey_kind.UnknownScreen = kind.UnknownScreen
kind_of hotkey_kind.UnknownAction = kind.UnknownAction

abbrev pub judged_words : {A : Type 0} → Result A HotkeyFault → Result A Fault
judged_words (Ok a) = Ok a
judged_words (Err f) = Err (fault_at (kind_of f.kind) f.left)

-- a key that has no button yet
abbrev pub no_button : Button
no_button = record { 0 = 0 }

-- a further word behind a screen's is one too many
abbrev pub nothing_further : Option ℕ → Result (Unit {0}) Fault
nothing_further None = Ok tt
nothing_further (Some left) = Err (fault_at kind.BadValue left)

unfoldable pub screen_named : Configuration → words.ScreenText → Result Action Fault
screen_named c s = do
  screen ← or_fault (screen_of c s.word.text) kind.UnknownScreen s.word.left
  _ ← nothing_further s.further
  Ok (action.SwitchTo (record { 0 = screen }))

-- what the words of an action mean among these screens
abbrev pub meant : Configuration → words.ActionText → Result Action Fault
meant c (words.Key deed id mods) = Ok (key_action deed id mods no_button)
meant c (words.Mouse deed b mods) = Ok (mouse_action deed mods b)
meant c (words.Lock mode) = Ok (action.Lock mode)
meant c (words.SwitchTo s) = screen_named c s
meant c (words.SwitchToward side) = Ok (action.SwitchToward side)

unfoldable pub action_of : Configuration → ActionForm → Result Action Fault
action_of c form = do
  text ← judged_words (words.action_of form)
  meant c text

unfoldable pub actions_of : Configuration → List ActionForm → Result (List Action) Fault
actions_of c [] = Ok []
actions_of c (form ∷ forms) = do
  first ← action_of c form
  rest ← actions_of c forms
  Ok (first ∷ rest)

unfoldable pub new_hotkey : ℕ → Configuration → HotkeyForm → Result Configuration Fault
new_hotkey whole c line = do
  trigger ← judged_words (words.trigger_of line)
  press ← actions_of c line.press
  release ← actions_of c line.release
  _ ← unless (has_room c.hotkeys (press ++ release)) kind.TooMany whole
  Ok (with_hotkey c (next_rule c.hotkeys trigger press release))
