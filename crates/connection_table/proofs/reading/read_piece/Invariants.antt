use Rattle.std.proofs.Common.{◌≡◌, ℕ, List, ◌++◌, length}
use Rattle.message_codec.specs.declared.messages.Msg.{Msg}
use Rattle.message_reader.specs.Representation.{Represents}
use Rattle.connection_table.proofs.reading.read_piece.Given as goal

-- some messages of the stream with the piece were given after those before
abbrev pub invariant-loop-messages : goal.invariant-loop-messages
invariant-loop-messages l = record {
  role : l.reader.role ≡ l.fn.reader.role;
  gives : (stream : List ℕ) (given : List Msg) → Represents l.fn.reader stream given → Represents l.reader (stream ++ l.piece) (given ++ l.messages.items);
}

abbrev pub decreases-loop-messages : goal.decreases-loop-messages
decreases-loop-messages l = length l.reader.framer.rest
