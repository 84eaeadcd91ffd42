-- The ways in which a command prints a stream.
use Rattle.std.specs.Prelude.{ℕ, Bool, true, false, List, [], ◌∷◌, ◌++◌, Option, None}
use Rattle.std.specs.List.{flat_map}
use Rattle.message_codec.specs.declared.messages.End.{End}
use Rattle.message_codec.specs.declared.messages.Msg.{Msg}
use Rattle.message_codec.specs.Showing.{show_line}
use Rattle.message_codec.specs.declared.messages.End.TheVariants as ends
use Rattle.held_inputs.specs.Line.{line_of}
use Rattle.held_inputs.specs.Down.{releases}
use Rattle.client_core.specs.declared.stop.Stop.{Stop}
use Rattle.client_core.specs.Hearing.{client}
use Rattle.client_core.specs.Ends.{stop_of}

-- whose messages are read; which of them ends the command, and how; the lines of messages, and
-- those that are added after them at the end; and whether the command waits for a message that ends
-- it
pub record Way : Type 0 where
  pub sender : End
  pub ends : Msg → Option Stop
  pub text : List Msg → List ℕ
  pub last : List Msg → List ℕ
  pub waits : Bool

-- a show line for each message, whatever it is
abbrev pub shown : Msg → List ℕ
shown m = show_line m ++ 10 ∷ []

abbrev pub showing : End → Way
showing from =
    record {
      sender = from;
      ends = λ m. None;
      text = flat_map shown;
      last = λ messages. [];
      waits = false;
    }

-- the lines of a client that injects a server's messages, and at its end the ups of all that is
-- down
abbrev pub injecting : Way
injecting = record {
  sender = ends.Server;
  ends = stop_of;
  text = λ messages. flat_map line_of (client messages).lines;
  last = λ messages. flat_map line_of (releases (client messages).lines);
  waits = true;
}
