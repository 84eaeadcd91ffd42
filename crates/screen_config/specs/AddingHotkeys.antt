-- What adding a hotkey answers, and what is counted for the next one.
use Rattle.std.specs.Prelude.{◌≡◌, ℕ, ◌+◌, ◌<◌, ◌≤◌, Bool, true, false, ◌&&◌, nat_lt, nat_le, List}
use Rattle.std.specs.Prelude.{[], ◌∷◌, ◌++◌, length, map, Result, Ok, Err}
use Rattle.hotkey_rules.specs.declared.action.Action.{Action}
use Rattle.hotkey_rules.specs.declared.trigger.Trigger.{Trigger}
use Rattle.hotkey_rules.specs.declared.rule.Rule.{Rule}
use Rattle.hotkey_rules.specs.Rules.{rule_of}
use Rattle.hotkey_rules.specs.declared.rules.TheConstants.{MOST_RULES}
use Rattle.screen_config.specs.declared.hotkeys.HotkeysFault.{HotkeysFault}
use Rattle.screen_config.specs.declared.hotkeys.HotkeysFault.TheVariants as fault
use Rattle.screen_config.specs.ActionKeys.{keys_in, with_keys, actions_in, action_keys, with_button}
use Rattle.screen_config.specs.declared.hotkeys.TheConstants.{MOST_ACTIONS}
use Rattle.screen_config.specs.declared.action_keys.TheConstants.{MOST_ACTION_KEYS}

-- the keys of these rules and of actions more
abbrev pub keys_with : List Rule → List Action → List ℕ
keys_with hotkeys actions = with_keys (action_keys hotkeys) (keys_in actions)

-- one rule more, with these actions, is within the limits
unfoldable pub has_room : List Rule → List Action → Bool
has_room hotkeys actions =
    nat_lt (length hotkeys) MOST_RULES
    && nat_le (length (keys_with hotkeys actions)) MOST_ACTION_KEYS
    && nat_le (length (actions_in hotkeys) + length actions) MOST_ACTIONS

-- a rule of actions that have the buttons of these keys
abbrev pub numbered : List ℕ → Trigger → List Action → List Action → Rule
numbered keys trigger press release =
    rule_of trigger (map (with_button keys) press) (map (with_button keys) release)

-- the rule that follows these rules
abbrev pub next_rule : List Rule → Trigger → List Action → List Action → Rule
next_rule hotkeys trigger press release =
    numbered (keys_with hotkeys (press ++ release)) trigger press release

-- the answer's cause, and the hotkeys after it: with the new one at the end, or as they were
abbrev pub AddsHotkey : Result (Unit {0}) HotkeysFault → List Rule → Trigger → List Action
    → List Action → List Rule → Type 0
AddsHotkey (Ok _) old trigger press release new =
    (has_room old (press ++ release) ≡ true)
    × (new ≡ old ++ next_rule old trigger press release ∷ [])
AddsHotkey (Err fault.Full) old trigger press release new =
    (has_room old (press ++ release) ≡ false) × (new ≡ old)
AddsHotkey (Err fault.OutOfMemory) old trigger press release new = new ≡ old

-- the answer's cause, and the keys after it. At a fault some may have been added.
abbrev pub AddsKeys : Result (Unit {0}) HotkeysFault → List ℕ → List ℕ → List ℕ → Type 0
AddsKeys (Ok _) old ids new = (new ≡ with_keys old ids) × (length new ≤ MOST_ACTION_KEYS)
AddsKeys (Err fault.Full) old ids new = MOST_ACTION_KEYS < length (with_keys old ids)
AddsKeys (Err fault.OutOfMemory) old ids new = Unit {0}

-- the keys of the actions of these rules, and how many actions there are
pub record AreCounted (hotkeys : List Rule) (keys : List ℕ) (actions : ℕ) : Type 0 where
  pub keys_are : keys ≡ action_keys hotkeys
  pub few_keys : length keys ≤ MOST_ACTION_KEYS
  pub actions_are : actions ≡ length (actions_in hotkeys)
  pub few_actions : actions ≤ MOST_ACTIONS
