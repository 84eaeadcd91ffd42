use Rattle.std.proofs.Common.{◌≡◌, ◌-◌, ◌≤◌, length, take}
use Rattle.share_base.specs.Told.{after}
use Rattle.share_base.proofs.sink.write_all.Given as goal

-- a front was taken, with no fault
abbrev pub invariant-loop-at : goal.invariant-loop-at
invariant-loop-at g l = record {
  within : l.at ≤ length l.bytes;
  taken : (g.K.Sink.state l.out).taken ≡ after (g.K.Sink.state l.fn.out).taken (take l.at l.bytes);
  faults : (g.K.Sink.state l.out).faults ≡ (g.K.Sink.state l.fn.out).faults;
}

abbrev pub decreases-loop-at : goal.decreases-loop-at
decreases-loop-at g l = length l.bytes - l.at
