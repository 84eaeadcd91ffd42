-- Kinds of messages: those that press and lift keys and buttons, and those that neither do so nor enter nor leave.
use Rattle.std.specs.Prelude.{Bool, true, false}
use Rattle.message_codec.specs.declared.messages.Msg.{Msg}
use Rattle.message_codec.specs.declared.messages.Msg.TheVariants as msg

abbrev pub is_input : Msg → Bool
is_input (msg.KeyDown id mask button) = true
is_input (msg.KeyUp id mask button) = true
is_input (msg.ButtonDown b) = true
is_input (msg.ButtonUp b) = true
is_input _ = false

abbrev pub is_plain : Msg → Bool
is_plain (msg.KeyDown id mask button) = false
is_plain (msg.KeyUp id mask button) = false
is_plain (msg.ButtonDown b) = false
is_plain (msg.ButtonUp b) = false
is_plain (msg.Enter x y seq mask) = false
is_plain msg.Leave = false
is_plain _ = true
