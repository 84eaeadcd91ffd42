-- Hotkeys as they are printed.
use Rattle.std.specs.Prelude.{ℕ, ◌+◌, ◌/◌, ◌%◌, Bool, true, false, nat_lt, if◌then◌else◌, List, []}
use Rattle.std.specs.Prelude.{◌∷◌, ◌++◌, Option, Some, None, codes}
use Rattle.std.specs.List.{flat_map}
use Rattle.std.specs.Fmt.{decimal}
use Rattle.share_base.specs.declared.numbers.KeyId.{KeyId}
use Rattle.share_base.specs.declared.numbers.Mask.{Mask}
use Rattle.share_base.specs.declared.numbers.MouseButton.{MouseButton}
use Rattle.modifier_map.specs.declared.class.ModClass.{ModClass}
use Rattle.modifier_map.specs.Table.{all_classes}
use Rattle.hotkey_rules.specs.declared.action.Action.{Action}
use Rattle.hotkey_rules.specs.declared.action.Action.TheVariants as action
use Rattle.hotkey_rules.specs.declared.trigger.Trigger.{Trigger}
use Rattle.hotkey_rules.specs.declared.trigger.Trigger.TheVariants as trigger
use Rattle.hotkey_rules.specs.KeyNames.{name_of_key}
use Rattle.hotkey_text.specs.declared.names.Deed.TheVariants as deed
use Rattle.hotkey_text.specs.declared.names.ActionName.{ActionName}
use Rattle.hotkey_text.specs.declared.names.ActionName.TheVariants as name
use Rattle.hotkey_text.specs.Names.{action_word}
use Rattle.hotkey_text.specs.LockModes.{lock_word}
use Rattle.share_base.specs.Sides.{side_text}
use Rattle.hotkey_text.specs.Keys.{is_plain}
use Rattle.hotkey_text.specs.Chords.{class_word, has_class}
use Rattle.hotkey_text.specs.Shapes.{has_some}

-- ---- a key

-- a digit of base 16, with a capital letter
abbrev pub digit_text : ℕ → ℕ
digit_text d = if nat_lt d 10 then 48 + d else 55 + d

-- \u and four digits
abbrev pub coded_text : ℕ → List ℕ
coded_text n =
    92 ∷ 117 ∷ digit_text (n / 4096) ∷ digit_text (n / 256 % 16) ∷ digit_text (n / 16 % 16)
    ∷ digit_text (n % 16) ∷ []

abbrev pub name_or_number : Option (List ℕ) → ℕ → List ℕ
name_or_number (Some name) n = name
name_or_number None n = if is_plain n then n ∷ [] else coded_text n

-- its name, or else its character, or else its number
unfoldable pub key_text : KeyId → List ℕ
key_text id = name_or_number (name_of_key id) id.0

-- ---- with modifiers, each with a + behind it

unfoldable pub mod_text : Mask → ModClass → List ℕ
mod_text mods c = if has_class mods c then class_word c ++ codes "+" else []

unfoldable pub mods_text : Mask → List ℕ
mods_text mods = flat_map (mod_text mods) all_classes

abbrev pub key_chord_text : KeyId → Mask → List ℕ
key_chord_text id mods = mods_text mods ++ key_text id

abbrev pub mouse_chord_text : MouseButton → Mask → List ℕ
mouse_chord_text b mods = mods_text mods ++ decimal b.0

-- ---- WORD(ARGUMENT)

unfoldable pub call_text : ActionName → List ℕ → List ℕ
call_text n argument = ((action_word n ++ codes "(") ++ argument) ++ codes ")"

abbrev pub trigger_text : Trigger → List ℕ
trigger_text (trigger.Key id mods) = call_text (name.Key deed.Stroke) (key_chord_text id mods)
trigger_text (trigger.Mouse b mods) = call_text (name.Mouse deed.Stroke) (mouse_chord_text b mods)

-- an action, where a screen to which it switches has that name
abbrev pub action_text : Action → List ℕ → List ℕ
action_text (action.KeyStroke id mods button) screen =
    call_text (name.Key deed.Stroke) (key_chord_text id mods)
action_text (action.KeyPress id mods button) screen =
    call_text (name.Key deed.Press) (key_chord_text id mods)
action_text (action.KeyRelease id mods button) screen =
    call_text (name.Key deed.Release) (key_chord_text id mods)
action_text (action.MouseClick mods b) screen =
    call_text (name.Mouse deed.Stroke) (mouse_chord_text b mods)
action_text (action.MousePress mods b) screen =
    call_text (name.Mouse deed.Press) (mouse_chord_text b mods)
action_text (action.MouseRelease mods b) screen =
    call_text (name.Mouse deed.Release) (mouse_chord_text b mods)
action_text (action.Lock mode) screen = call_text name.Lock (lock_word mode)
action_text (action.SwitchTo number) screen = call_text name.SwitchTo screen
action_text (action.SwitchToward side) screen = call_text name.SwitchToward (side_text side)

-- ---- the line, of its trigger and its actions

-- what stands between the lists: a ; where something is released or nothing is pressed, and a blank
-- behind it only where something is released
abbrev pub between : Bool → Bool → List ℕ
between has_press true = codes "; "
between true false = []
between false false = codes ";"

-- with commas between
abbrev pub and_further : List (List ℕ) → List ℕ
and_further texts = flat_map (λ t. codes ", " ++ t) texts

abbrev pub with_commas : List (List ℕ) → List ℕ
with_commas [] = []
with_commas (t ∷ texts) = t ++ and_further texts

unfoldable pub hotkey_text : List ℕ → List (List ℕ) → List (List ℕ) → List ℕ
hotkey_text trigger press release =
    (((trigger ++ codes " = ") ++ with_commas press) ++ between (has_some press) (has_some release))
    ++ with_commas release
