use Rattle.std.proofs.Common.{◌≡◌, ◌-◌, ◌≤◌, length}
use Rattle.share_base.specs.Told.{before}
use Rattle.system_streams.proofs.real.read_whole.Given as goal

-- what was given stood in front of what is left, within the limit, with no fault
abbrev pub invariant-loop-bytes : goal.invariant-loop-bytes
invariant-loop-bytes g l = record {
  within : length l.bytes ≤ l.limit;
  given : (g.S.Source.state l.fn.source).left ≡ before l.bytes (g.S.Source.state l.source).left;
  faults : (g.S.Source.state l.source).faults ≡ (g.S.Source.state l.fn.source).faults;
}

abbrev pub decreases-loop-bytes : goal.decreases-loop-bytes
decreases-loop-bytes g l = l.limit - length l.bytes
