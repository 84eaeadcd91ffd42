-- What a hotkey's line means among the screens that are named above it.
use Rattle.std.specs.Prelude.{◌≡◌, ℕ, true, List, ◌++◌, Some, None}
use Rattle.std.specs.List.{AllZip}
use Rattle.hotkey_rules.specs.declared.action.Action.{Action}
use Rattle.hotkey_rules.specs.declared.action.Action.TheVariants as action
use Rattle.hotkey_rules.specs.declared.trigger.Trigger.{Trigger}
use Rattle.hotkey_text.specs.Names.{key_action, mouse_action}
use Rattle.hotkey_text.specs.Shapes.{ActionForm, HotkeyForm}
use Rattle.hotkey_text.specs.Arguments.{ActionText, Key, Mouse, Lock, SwitchTo, SwitchToward}
use Rattle.hotkey_text.specs.SpellingWords.{SpellsTrigger, SpellsWords}
use Rattle.screen_config.specs.Configurations.{Configuration, screen_of, with_hotkey}
use Rattle.config_text.specs.Hotkeys.{no_button}
use Rattle.screen_config.specs.AddingHotkeys.{has_room, next_rule}

-- these words mean that action, whose key has no button yet
abbrev pub MeansWords : Configuration → ActionText → Action → Type 0
MeansWords c (Key deed id mods) a = a ≡ key_action deed id mods no_button
MeansWords c (Mouse deed b mods) a = a ≡ mouse_action deed mods b
MeansWords c (Lock mode) a = a ≡ action.Lock mode
MeansWords c (SwitchTo s) a =
    (screen : ℕ) × (screen_of c s.word.text ≡ Some screen) × (s.further ≡ None)
    × (a ≡ action.SwitchTo (record { 0 = screen }))
MeansWords c (SwitchToward side) a = a ≡ action.SwitchToward side

abbrev pub MeansAction : Configuration → ActionForm → Action → Type 0
MeansAction c form a = (text : ActionText) × SpellsWords form text × MeansWords c text a

-- the configuration with the line's rule more, whose actions have the buttons of their keys
pub record MeansHotkey (c : Configuration) (line : HotkeyForm) (more : Configuration) : Type 0 where
  pub trigger : Trigger
  pub press : List Action
  pub release : List Action
  pub spelled : SpellsTrigger line trigger
  pub pressed : AllZip (λ form a. MeansAction c form a) line.press press
  pub released : AllZip (λ form a. MeansAction c form a) line.release release
  pub room : has_room c.hotkeys (press ++ release) ≡ true
  pub rule : more ≡ with_hotkey c (next_rule c.hotkeys trigger press release)
