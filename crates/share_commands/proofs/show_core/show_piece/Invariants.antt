use Rattle.std.proofs.Common.{◌≡◌, length}
use Rattle.share_commands.proofs.Shown.{Listing}
use Rattle.share_commands.proofs.show_core.show_piece.Given as goal

-- some of the piece's messages were shown
abbrev pub invariant-loop-bad : goal.invariant-loop-bad
invariant-loop-bad l = record {
  role : l.reader.role ≡ l.fn.reader.role;
  shows : Listing l.fn.reader l.reader l.fn.lines l.lines l.piece;
}

abbrev pub decreases-loop-bad : goal.decreases-loop-bad
decreases-loop-bad l = length l.reader.framer.rest
