-- Which triggers and actions there are: keys from 1 to 65,535, mouse buttons from 1 to 255, and the
-- modifiers of the five classes. Which screens there are is left to others.
use Rattle.std.specs.Prelude.{Bool, true, not, ◌==◌, ◌&&◌, nat_lt}
use Rattle.share_base.specs.declared.numbers.KeyId.{KeyId}
use Rattle.share_base.specs.declared.numbers.Mask.{Mask}
use Rattle.share_base.specs.declared.numbers.MouseButton.{MouseButton}
use Rattle.modifier_map.specs.Table.{key_bit}
use Rattle.hotkey_rules.specs.declared.action.Action.{Action}
use Rattle.hotkey_rules.specs.declared.action.Action.TheVariants as action
use Rattle.hotkey_rules.specs.declared.trigger.Trigger.{Trigger}
use Rattle.hotkey_rules.specs.declared.trigger.Trigger.TheVariants as trigger

-- bits of the five classes alone
abbrev pub are_mods : Mask → Bool
are_mods mods = nat_lt mods.0 32

abbrev pub is_key : KeyId → Bool
is_key id = nat_lt 0 id.0 && nat_lt id.0 65536

abbrev pub is_mouse_button : MouseButton → Bool
is_mouse_button b = nat_lt 0 b.0 && nat_lt b.0 256

abbrev pub is_key_chord : KeyId → Mask → Bool
is_key_chord id mods = is_key id && are_mods mods

abbrev pub is_mouse_chord : MouseButton → Mask → Bool
is_mouse_chord b mods = is_mouse_button b && are_mods mods

-- a key of one of the classes of modifiers
abbrev pub is_modifier_key : KeyId → Bool
is_modifier_key id = not (key_bit id.0 == 0)

-- the key of a trigger is none of the modifiers
abbrev pub is_trigger : Trigger → Bool
is_trigger (trigger.Key id mods) = is_key_chord id mods && not (is_modifier_key id)
is_trigger (trigger.Mouse b mods) = is_mouse_chord b mods

abbrev pub is_action : Action → Bool
is_action (action.KeyStroke id mods button) = is_key_chord id mods
is_action (action.KeyPress id mods button) = is_key_chord id mods
is_action (action.KeyRelease id mods button) = is_key_chord id mods
is_action (action.MouseClick mods b) = is_mouse_chord b mods
is_action (action.MousePress mods b) = is_mouse_chord b mods
is_action (action.MouseRelease mods b) = is_mouse_chord b mods
is_action (action.Lock mode) = true
is_action (action.SwitchTo screen) = true
is_action (action.SwitchToward side) = true
