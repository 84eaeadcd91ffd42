-- Screens worked out by hand.
use Rattle.std.proofs.Common.{◌≡◌, refl, List, [], ◌∷◌}
use Rattle.std.specs.Prelude.{pos}
use Rattle.message_codec.specs.declared.messages.Msg.TheVariants as msg
use Rattle.modifier_map.specs.Map.{identity}
use Rattle.held_inputs.specs.declared.line.Line.{Line}
use Rattle.held_inputs.specs.declared.line.Line.TheVariants.{Enter, Leave, KeyDown, KeyRepeat}
use Rattle.held_inputs.specs.declared.line.Line.TheVariants.{KeyUp, ButtonDown, ButtonUp}
use Rattle.held_inputs.specs.Down.{last_where, down, is_button_down, reach, keys_below}
use Rattle.held_inputs.specs.Down.{buttons_below, held_keys, held_buttons, releases}
use Rattle.held_inputs.specs.Screen.{Call, Applies, SetsOption, ReleasesAll, meant_id, meant_mask}
use Rattle.held_inputs.specs.Screen.{screen}

-- the lines of calls, from the identity on
abbrev lines_after : List Call → List Line
lines_after calls = (screen identity calls).lines

-- a key is down at the end of the stream, or went up before it: the lines are the same
key_down_at_the_end : lines_after
    (Applies (msg.Enter (pos 0) (pos 384) 1 0) ∷ Applies (msg.KeyDown 97 0 38) ∷ ReleasesAll
    ∷ [])
    ≡ Enter (pos 0) (pos 384) 1 0 ∷ KeyDown 97 38 0 ∷ KeyUp 97 38 ∷ []
unfolding last_where down is_button_down reach keys_below buttons_below held_keys held_buttons
    releases meant_id meant_mask
key_down_at_the_end = refl

key_up_before_the_end : lines_after
    (Applies (msg.Enter (pos 0) (pos 384) 1 0) ∷ Applies (msg.KeyDown 97 0 38)
    ∷ Applies (msg.KeyUp 97 0 38) ∷ ReleasesAll ∷ [])
    ≡ Enter (pos 0) (pos 384) 1 0 ∷ KeyDown 97 38 0 ∷ KeyUp 97 38 ∷ []
unfolding last_where down is_button_down reach keys_below buttons_below held_keys held_buttons
    releases meant_id meant_mask
key_up_before_the_end = refl

-- a key that is pressed twice repeats; an up of a key that is up prints nothing
pressed_twice : lines_after
    (Applies (msg.KeyDown 97 0 38) ∷ Applies (msg.KeyDown 97 0 38) ∷ ReleasesAll
    ∷ Applies (msg.KeyUp 97 0 38) ∷ [])
    ≡ KeyDown 97 38 0 ∷ KeyRepeat 97 1 38 0 ∷ KeyUp 97 38 ∷ []
unfolding last_where down is_button_down reach keys_below buttons_below held_keys held_buttons
    releases meant_id meant_mask
pressed_twice = refl

-- Shift counts as Control
shift_as_control : lines_after
    (SetsOption 1296909907 2 ∷ Applies (msg.KeyDown 61409 0 50) ∷ Applies (msg.KeyDown 97 1 38)
    ∷ [])
    ≡ KeyDown 61411 50 0 ∷ KeyDown 97 38 2 ∷ []
unfolding last_where down is_button_down reach keys_below buttons_below held_keys held_buttons
    releases meant_id meant_mask
shift_as_control = refl

-- all goes up before a `leave`, the keys first
left_with_all_down : lines_after
    (Applies (msg.Enter (pos 0) (pos 384) 1 0) ∷ Applies (msg.KeyDown 97 0 38)
    ∷ Applies (msg.ButtonDown 3) ∷ Applies msg.Leave ∷ [])
    ≡ Enter (pos 0) (pos 384) 1 0 ∷ KeyDown 97 38 0 ∷ ButtonDown 3 ∷ KeyUp 97 38 ∷ ButtonUp 3
    ∷ Leave ∷ []
unfolding last_where down is_button_down reach keys_below buttons_below held_keys held_buttons
    releases meant_id meant_mask
left_with_all_down = refl

-- a key keeps the id of its down, whatever the map and the message say later; one that means
-- nothing stays up
id_of_the_down : lines_after
    (Applies (msg.KeyDown 61409 1 50) ∷ SetsOption 1296909907 0
    ∷ Applies (msg.KeyDown 61409 1 50) ∷ Applies (msg.KeyDown 61409 1 51)
    ∷ Applies (msg.KeyUp 7 0 50) ∷ [])
    ≡ KeyDown 61409 50 1 ∷ KeyRepeat 61409 1 50 0 ∷ KeyUp 61409 50 ∷ []
unfolding last_where down is_button_down reach keys_below buttons_below held_keys held_buttons
    releases meant_id meant_mask
id_of_the_down = refl
