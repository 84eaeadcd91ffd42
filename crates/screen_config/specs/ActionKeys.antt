-- The keys of actions. Each has a button of its own, which stands for it on the wire.
use Rattle.std.specs.Prelude.{ℕ, ◌+◌, ◌==◌, Bool, if◌then◌else◌, List, [], ◌∷◌, ◌++◌}
use Rattle.std.specs.List.{flat_map, list_any, position_or_len}
use Rattle.share_base.specs.declared.numbers.Button.{Button}
use Rattle.hotkey_rules.specs.declared.action.Action.{Action}
use Rattle.hotkey_rules.specs.declared.action.Action.TheVariants as action
use Rattle.hotkey_rules.specs.declared.rule.Rule.{Rule}

-- the key of an action, where it has one
abbrev pub key_in : Action → List ℕ
key_in (action.KeyStroke id mods button) = id.0 ∷ []
key_in (action.KeyPress id mods button) = id.0 ∷ []
key_in (action.KeyRelease id mods button) = id.0 ∷ []
key_in (action.MouseClick mods b) = []
key_in (action.MousePress mods b) = []
key_in (action.MouseRelease mods b) = []
key_in (action.Lock mode) = []
key_in (action.SwitchTo screen) = []
key_in (action.SwitchToward side) = []

abbrev pub keys_in : List Action → List ℕ
keys_in actions = flat_map key_in actions

abbrev pub has_key : List ℕ → ℕ → Bool
has_key keys id = list_any (λ k. k == id) keys

-- these keys, and behind them each of the others once, in the order in which they first come
abbrev pub with_key : List ℕ → ℕ → List ℕ
with_key keys id = if has_key keys id then keys else keys ++ id ∷ []

abbrev pub with_keys : List ℕ → List ℕ → List ℕ
with_keys keys [] = keys
with_keys keys (id ∷ ids) = with_keys (with_key keys id) ids

-- the actions of rules, in the order of the text
abbrev pub actions_in : List Rule → List Action
actions_in rules = flat_map (λ rule. rule.press ++ rule.release) rules

-- the keys of rules' actions, in the order of the text
abbrev pub keys_of_rules : List Rule → List ℕ
keys_of_rules rules = keys_in (actions_in rules)

-- the same, each once, in the order in which they first come
unfoldable pub action_keys : List Rule → List ℕ
action_keys rules = with_keys [] (keys_of_rules rules)

-- a key's place among them
abbrev pub place_of : List ℕ → ℕ → ℕ
place_of keys id = position_or_len (λ k. k == id) keys

-- its button: 0xF000, and its place
abbrev pub button_of : List ℕ → ℕ → Button
button_of keys id = record { 0 = 0xf000 + place_of keys id }

-- an action with its key's button
unfoldable pub with_button : List ℕ → Action → Action
with_button keys (action.KeyStroke id mods button) = action.KeyStroke id mods (button_of keys id.0)
with_button keys (action.KeyPress id mods button) = action.KeyPress id mods (button_of keys id.0)
with_button keys (action.KeyRelease id mods button) =
    action.KeyRelease id mods (button_of keys id.0)
with_button keys (action.MouseClick mods b) = action.MouseClick mods b
with_button keys (action.MousePress mods b) = action.MousePress mods b
with_button keys (action.MouseRelease mods b) = action.MouseRelease mods b
with_button keys (action.Lock mode) = action.Lock mode
with_button keys (action.SwitchTo screen) = action.SwitchTo screen
with_button keys (action.SwitchToward side) = action.SwitchToward side
