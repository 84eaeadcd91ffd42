use Rattle.std.proofs.Common.{◌≡◌, ◌+◌, ◌≤◌, length}
use Rattle.client_core.proofs.Streams.{Hearing}
use Rattle.client_core.proofs.hearing.hear_piece.Given as goal

-- some of the piece's messages were heard, and none of them ended the client
abbrev pub invariant-loop-place : goal.invariant-loop-place
invariant-loop-place l = record {
  role : l.reader.role ≡ l.fn.reader.role;
  hears : Hearing l.fn.reader l.reader l.fn.hearer l.hearer l.piece;
  total : l.reader.total ≤ l.fn.reader.total + length l.piece;
}

abbrev pub decreases-loop-place : goal.decreases-loop-place
decreases-loop-place l = length l.reader.framer.rest
