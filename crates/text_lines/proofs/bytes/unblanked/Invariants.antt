use Rattle.std.proofs.Common.{◌≡◌, ◌≤◌, length}
use Rattle.text_lines.specs.Bytes as spec
use Rattle.text_lines.proofs.bytes.unblanked.Given as goal

abbrev pub invariant-loop-rest : goal.invariant-loop-rest
invariant-loop-rest l =
    record {
      same : spec.unblanked l.rest ≡ spec.unblanked l.fn.bytes;
      below : length l.rest ≤ length l.fn.bytes;
    }

abbrev pub decreases-loop-rest : goal.decreases-loop-rest
decreases-loop-rest l = length l.rest
