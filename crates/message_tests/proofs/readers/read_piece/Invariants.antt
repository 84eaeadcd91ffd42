use Rattle.std.proofs.Common.{◌≡◌, length}
use Rattle.message_tests.proofs.readers.read_piece.Given as goal

abbrev pub invariant-loop-msg : goal.invariant-loop-msg
invariant-loop-msg l = l.reader.total ≡ l.initial.reader.total

abbrev pub decreases-loop-msg : goal.decreases-loop-msg
decreases-loop-msg l = length l.reader.framer.rest
