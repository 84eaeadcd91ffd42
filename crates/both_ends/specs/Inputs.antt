-- Lines of keys and of mouse buttons, and the calls of a screen that messages come to.
use Rattle.std.specs.Prelude.{ℕ, Bool, true, false, List, [], ◌∷◌, map, filter}
use Rattle.std.specs.List.{flat_map}
use Rattle.message_codec.specs.declared.messages.Msg.{Msg}
use Rattle.message_codec.specs.declared.messages.Msg.TheVariants as msg
use Rattle.modifier_map.specs.Map.{identity}
use Rattle.held_inputs.specs.declared.line.Line.{Line}
use Rattle.held_inputs.specs.declared.line.Line.TheVariants as line
use Rattle.held_inputs.specs.Screen.{Screen, screen, Call, Applies, SetsOption, ResetsOptions}
use Rattle.client_talk.specs.Options.{pairs}

abbrev pub is_input : Line → Bool
is_input (line.KeyDown id button mask) = true
is_input (line.KeyRepeat id count button mask) = true
is_input (line.KeyUp id button) = true
is_input (line.ButtonDown b) = true
is_input (line.ButtonUp b) = true
is_input _ = false

abbrev pub inputs : List Line → List Line
inputs lines = filter is_input lines

abbrev pub sets_option : ℕ × ℕ → Call
sets_option option = SetsOption option.0 option.1

-- options change the map of modifiers, and every other message is applied
abbrev pub calls_of : Msg → List Call
calls_of msg.ResetOptions = ResetsOptions ∷ []
calls_of (msg.SetOptions words) = map sets_option (pairs words)
calls_of m = Applies m ∷ []

abbrev pub calls : List Msg → List Call
calls messages = flat_map calls_of messages

-- a screen with the map that the options have made by each message
abbrev pub mapped_screen : List Msg → Screen
mapped_screen messages = screen identity (calls messages)
