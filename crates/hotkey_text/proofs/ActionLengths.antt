-- Printed triggers and actions are short.
use Rattle.std.proofs.Common.{◌≡◌, ℕ, ◌+◌, ◌*◌, ◌<◌, ◌≤◌, true, List, [], ◌∷◌, ◌++◌, length, Some}
use Rattle.std.proofs.Common.{nat_lt, nat_le, refl, length-append, arith}
use Rattle.std.specs.Prelude.{codes}
use Rattle.std.specs.List.{flat_map}
use Rattle.std.specs.Fmt.{decimal}
use Rattle.std.proofs.lemmas.Bool.{and_parts, cond_both, leb-true, ltb-true}
use Rattle.std.proofs.lemmas.Fmt.{length-decimal-le}
use Rattle.share_base.specs.declared.numbers.KeyId.{KeyId}
use Rattle.share_base.specs.declared.numbers.Mask.{Mask}
use Rattle.share_base.specs.declared.numbers.MouseButton.{MouseButton}
use Rattle.share_base.specs.declared.shape.Side.{Side}
use Rattle.share_base.specs.Sides.{side_text}
use Rattle.modifier_map.specs.declared.class.ModClass.{ModClass}
use Rattle.modifier_map.specs.Table.{all_classes}
use Rattle.hotkey_rules.specs.declared.action.LockMode.{LockMode}
use Rattle.hotkey_rules.specs.declared.action.Action.{Action}
use Rattle.hotkey_rules.specs.declared.action.Action.TheVariants as action
use Rattle.hotkey_rules.specs.declared.trigger.Trigger.{Trigger}
use Rattle.hotkey_rules.specs.declared.trigger.Trigger.TheVariants as trigger
use Rattle.hotkey_rules.specs.KeyNames.{NamedKey, row, named_keys, name_of_key}
use Rattle.hotkey_rules.proofs.KeyRows.{has_name}
use Rattle.hotkey_text.specs.declared.names.Deed.TheVariants as deed
use Rattle.hotkey_text.specs.declared.names.ActionName.{ActionName}
use Rattle.hotkey_text.specs.declared.names.ActionName.TheVariants as name
use Rattle.hotkey_text.specs.Chords.{class_word, has_class}
use Rattle.hotkey_text.specs.LockModes.{lock_word}
use Rattle.hotkey_text.specs.Names.{action_word}
use Rattle.hotkey_text.specs.Printed.{key_text, mod_text, mods_text, key_chord_text}
use Rattle.hotkey_text.specs.Printed.{mouse_chord_text, call_text, trigger_text, action_text}
use Rattle.hotkey_rules.specs.WellFormed.{is_mouse_button, are_mods, is_mouse_chord, is_trigger}
use Rattle.hotkey_rules.specs.WellFormed.{is_action}
use Rattle.hotkey_text.proofs.KeysAgain.{key_text_by}
use Rattle.hotkey_text.proofs.WordsFound.{listed_passes, each_name, each_class, each_mode}
use Rattle.hotkey_text.proofs.WordsFound.{each_side}

-- ---- a key, or a button of the mouse, behind modifiers

name_short : (id : KeyId) (text : List ℕ) → name_of_key id ≡ Some text → length text ≤ 10
unfolding named_keys
name_short id text e =
    leb-true (length text) 10
    (listed_passes (λ (k : NamedKey). nat_le (length k.name) 10) named_keys (row text id.0) refl
    (has_name id text e))

key_short : (id : KeyId) → length (key_text id) ≤ 10
key_short id = key_text_by (λ t. length t ≤ 10) id (name_short id) (λ p. omega arith) (omega arith)

class_short : (c : ModClass) → length (class_word c ++ codes "+") ≤ 8
class_short c =
    leb-true _ 8 (each_class (λ c. nat_le (length (class_word c ++ codes "+")) 8) refl c)

mod_short : (mods : Mask) (c : ModClass) → length (mod_text mods c) ≤ 8
unfolding mod_text
mod_short mods c =
    cond_both (has_class mods c) (class_word c ++ codes "+") [] (λ t. length t ≤ 8)
    (λ h. class_short c) (λ h. omega arith)

each_mod_short : (mods : Mask) (cs : List ModClass)
    → length (flat_map (mod_text mods) cs) ≤ 8 * length cs
each_mod_short mods [] = omega arith
each_mod_short mods (c ∷ cs) =
    omega (
      arith,
      length-append (mod_text mods c) (flat_map (mod_text mods) cs),
      mod_short mods c,
      each_mod_short mods cs,
    )

mods_short : (mods : Mask) → length (mods_text mods) ≤ 40
unfolding mods_text
mods_short mods = omega (arith, each_mod_short mods all_classes)

key_chord_short : (id : KeyId) (mods : Mask) → length (key_chord_text id mods) ≤ 50
key_chord_short id mods =
    omega (arith, length-append (mods_text mods) (key_text id), mods_short mods, key_short id)

mouse_chord_short : (b : MouseButton) (mods : Mask) → is_mouse_chord b mods ≡ true
    → length (mouse_chord_text b mods) ≤ 50
mouse_chord_short b mods h =
    let button = and_parts (is_mouse_button b) (are_mods mods) h in
    let below : b.0 < 256 =
    ltb-true b.0 256 (and_parts (nat_lt 0 b.0) (nat_lt b.0 256) button.0).1 in
    omega (
      arith,
      length-append (mods_text mods) (decimal b.0),
      mods_short mods,
      length-decimal-le 3 b.0 (omega arith) (omega arith) (omega arith),
    )

-- ---- WORD(ARGUMENT)

word_short : (n : ActionName) → length (action_word n) ≤ 18
word_short n = leb-true _ 18 (each_name (λ n. nat_le (length (action_word n)) 18) refl n)

call_short : (n : ActionName) (argument : List ℕ)
    → length (call_text n argument) ≤ 20 + length argument
unfolding call_text
call_short n argument =
    omega (
      arith,
      length-append ((action_word n ++ codes "(") ++ argument) (codes ")"),
      length-append (action_word n ++ codes "(") argument,
      length-append (action_word n) (codes "("),
      word_short n,
    )

pub trigger_short : (t : Trigger) → is_trigger t ≡ true → length (trigger_text t) ≤ 70
trigger_short (trigger.Key id mods) h =
    omega
    (arith, call_short (name.Key deed.Stroke) (key_chord_text id mods), key_chord_short id mods)
trigger_short (trigger.Mouse b mods) h =
    omega (
      arith,
      call_short (name.Mouse deed.Stroke) (mouse_chord_text b mods),
      mouse_chord_short b mods h,
    )

lock_short : (m : LockMode) → length (lock_word m) ≤ 6
lock_short m = leb-true _ 6 (each_mode (λ m. nat_le (length (lock_word m)) 6) refl m)

pub side_short : (s : Side) → length (side_text s) ≤ 5
side_short s = leb-true _ 5 (each_side (λ s. nat_le (length (side_text s)) 5) refl s)

-- an action, with a screen's name that is short
pub action_short : (a : Action) (screen : List ℕ) → is_action a ≡ true → length screen ≤ 255
    → length (action_text a screen) ≤ 275
action_short (action.KeyStroke id mods button) screen h s =
    omega
    (arith, call_short (name.Key deed.Stroke) (key_chord_text id mods), key_chord_short id mods)
action_short (action.KeyPress id mods button) screen h s =
    omega
    (arith, call_short (name.Key deed.Press) (key_chord_text id mods), key_chord_short id mods)
action_short (action.KeyRelease id mods button) screen h s =
    omega
    (arith, call_short (name.Key deed.Release) (key_chord_text id mods), key_chord_short id mods)
action_short (action.MouseClick mods b) screen h s =
    omega (
      arith,
      call_short (name.Mouse deed.Stroke) (mouse_chord_text b mods),
      mouse_chord_short b mods h,
    )
action_short (action.MousePress mods b) screen h s =
    omega (
      arith,
      call_short (name.Mouse deed.Press) (mouse_chord_text b mods),
      mouse_chord_short b mods h,
    )
action_short (action.MouseRelease mods b) screen h s =
    omega (
      arith,
      call_short (name.Mouse deed.Release) (mouse_chord_text b mods),
      mouse_chord_short b mods h,
    )
action_short (action.Lock mode) screen h s =
    omega (arith, call_short name.Lock (lock_word mode), lock_short mode)
action_short (action.SwitchTo number) screen h s = omega (arith, call_short name.SwitchTo screen)
action_short (action.SwitchToward toward) screen h s =
    omega (arith, call_short name.SwitchToward (side_text toward), side_short toward)
