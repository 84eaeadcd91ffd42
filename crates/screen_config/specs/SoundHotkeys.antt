-- What the hotkeys of every configuration keep: their limits, that a text can spell each of them,
-- that each screen's number in them is that of a screen, and that each key of an action has its own
-- button.
use Rattle.std.specs.Prelude.{◌≡◌, ℕ, ◌≤◌, Bool, true, nat_lt, ◌&&◌, List, length}
use Rattle.std.specs.List.{list_all, All}
use Rattle.hotkey_rules.specs.declared.action.Action.{Action}
use Rattle.hotkey_rules.specs.declared.action.Action.TheVariants as action
use Rattle.hotkey_rules.specs.declared.rule.Rule.{Rule}
use Rattle.hotkey_rules.specs.declared.rules.TheConstants.{MOST_RULES}
use Rattle.hotkey_rules.specs.WellFormed.{is_trigger, is_action}
use Rattle.screen_config.specs.ActionKeys.{actions_in, action_keys, with_button}
use Rattle.screen_config.specs.declared.hotkeys.TheConstants.{MOST_ACTIONS}
use Rattle.screen_config.specs.declared.action_keys.TheConstants.{MOST_ACTION_KEYS}

-- where it switches to a screen, that screen is one of so many
abbrev pub action_below : ℕ → Action → Bool
action_below count (action.KeyStroke id mods button) = true
action_below count (action.KeyPress id mods button) = true
action_below count (action.KeyRelease id mods button) = true
action_below count (action.MouseClick mods b) = true
action_below count (action.MousePress mods b) = true
action_below count (action.MouseRelease mods b) = true
action_below count (action.Lock mode) = true
action_below count (action.SwitchTo screen) = nat_lt screen.0 count
action_below count (action.SwitchToward side) = true

-- a text can spell it among so many screens
abbrev pub is_action_among : ℕ → Action → Bool
is_action_among count a = is_action a && action_below count a

abbrev pub HasItsButton : List ℕ → Action → Type 0
HasItsButton keys a = with_button keys a ≡ a

-- hotkeys among so many screens
pub record AreHotkeys (count : ℕ) (hotkeys : List Rule) : Type 0 where
  pub few : length hotkeys ≤ MOST_RULES
  pub few_keys : length (action_keys hotkeys) ≤ MOST_ACTION_KEYS
  pub few_actions : length (actions_in hotkeys) ≤ MOST_ACTIONS
  pub triggers : list_all (λ rule. is_trigger rule.trigger) hotkeys ≡ true
  pub actions : list_all (is_action_among count) (actions_in hotkeys) ≡ true
  pub buttons : All (HasItsButton (action_keys hotkeys)) (actions_in hotkeys)
