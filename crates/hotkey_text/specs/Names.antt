-- The words of actions, one line a row: reading and printing follow it. A trigger has the word of
-- the action that does the same.
use Rattle.std.specs.Prelude.{ℕ, List, [], ◌∷◌, Option, codes}
use Rattle.std.specs.List.{find}
use Rattle.std.specs.Str.{bytes_eq}
use Rattle.share_base.specs.declared.numbers.KeyId.{KeyId}
use Rattle.share_base.specs.declared.numbers.Mask.{Mask}
use Rattle.share_base.specs.declared.numbers.Button.{Button}
use Rattle.share_base.specs.declared.numbers.MouseButton.{MouseButton}
use Rattle.hotkey_rules.specs.declared.action.Action.{Action}
use Rattle.hotkey_rules.specs.declared.action.Action.TheVariants as action
use Rattle.hotkey_text.specs.declared.names.Deed.{Deed}
use Rattle.hotkey_text.specs.declared.names.Deed.TheVariants as deed
use Rattle.hotkey_text.specs.declared.names.ActionName.{ActionName}
use Rattle.hotkey_text.specs.declared.names.ActionName.TheVariants as name
use Rattle.hotkey_text.specs.declared.names.TriggerKind.{TriggerKind}
use Rattle.hotkey_text.specs.declared.names.TriggerKind.TheVariants as trigger

abbrev pub action_word : ActionName → List ℕ
action_word (name.Key deed.Stroke) = codes "keystroke"
action_word (name.Key deed.Press) = codes "keyDown"
action_word (name.Key deed.Release) = codes "keyUp"
action_word (name.Mouse deed.Stroke) = codes "mousebutton"
action_word (name.Mouse deed.Press) = codes "mouseDown"
action_word (name.Mouse deed.Release) = codes "mouseUp"
action_word name.Lock = codes "lockCursorToScreen"
action_word name.SwitchTo = codes "switchToScreen"
action_word name.SwitchToward = codes "switchInDirection"

abbrev pub action_names : List ActionName
action_names =
    name.Key deed.Stroke ∷ name.Key deed.Press ∷ name.Key deed.Release ∷
    name.Mouse deed.Stroke ∷ name.Mouse deed.Press ∷ name.Mouse deed.Release ∷
    name.Lock ∷ name.SwitchTo ∷ name.SwitchToward ∷ []

abbrev pub action_named : List ℕ → Option ActionName
action_named word = find (λ n. bytes_eq (action_word n) word) action_names

-- ---- triggers

abbrev pub trigger_word : TriggerKind → List ℕ
trigger_word trigger.Key = action_word (name.Key deed.Stroke)
trigger_word trigger.Mouse = action_word (name.Mouse deed.Stroke)

abbrev pub trigger_named : List ℕ → Option TriggerKind
trigger_named word = find (λ k. bytes_eq (trigger_word k) word) (trigger.Key ∷ trigger.Mouse ∷ [])

-- ---- the actions themselves

abbrev pub key_action : Deed → KeyId → Mask → Button → Action
key_action deed.Stroke id mods button = action.KeyStroke id mods button
key_action deed.Press id mods button = action.KeyPress id mods button
key_action deed.Release id mods button = action.KeyRelease id mods button

abbrev pub mouse_action : Deed → Mask → MouseButton → Action
mouse_action deed.Stroke mods b = action.MouseClick mods b
mouse_action deed.Press mods b = action.MousePress mods b
mouse_action deed.Release mods b = action.MouseRelease mods b
