-- The buttons at which keys go down: those of a script's keys, and those of action keys.
use Rattle.std.specs.Prelude.{ℕ, Bool, true, ◌&&◌, ◌||◌, nat_le, nat_lt}
use Rattle.std.specs.List.{list_all}
use Rattle.message_codec.specs.declared.messages.Msg.{Msg}
use Rattle.message_codec.specs.declared.messages.Msg.TheVariants as msg
use Rattle.hotkey_rules.specs.declared.action.Action.{Action}
use Rattle.hotkey_rules.specs.declared.action.Action.TheVariants as action
use Rattle.hotkey_rules.specs.declared.rule.Rule.{Rule}
use Rattle.machine.specs.Scripts.{Line, KeyDown}

abbrev pub is_script_button : ℕ → Bool
is_script_button n = nat_le 1 n && nat_le n 255

-- 0xF000 and the 255 after it
abbrev pub is_action_button : ℕ → Bool
is_action_button n = nat_le 61440 n && nat_lt n 61696

abbrev pub is_key_button : ℕ → Bool
is_key_button n = is_script_button n || is_action_button n

-- ---- where each key goes down at a button that passes a test

abbrev pub pressed_by_message : (ℕ → Bool) → Msg → Bool
pressed_by_message test (msg.KeyDown id mask button) = test button
pressed_by_message test _ = true

abbrev pub pressed_by_line : (ℕ → Bool) → Line → Bool
pressed_by_line test (KeyDown id button) = test button
pressed_by_line test _ = true

abbrev pub pressed_by_action : (ℕ → Bool) → Action → Bool
pressed_by_action test (action.KeyStroke id mods button) = test button.0
pressed_by_action test (action.KeyPress id mods button) = test button.0
pressed_by_action test _ = true

abbrev pub pressed_by_rule : (ℕ → Bool) → Rule → Bool
pressed_by_rule test rule =
    list_all (pressed_by_action test) rule.press && list_all (pressed_by_action test) rule.release
