use Rattle.std.proofs.Common.{◌≡◌, ◌+◌, ◌-◌, ◌<◌, None, []}
use Rattle.share_base.specs.Told.{NotSet}
use Rattle.share_commands.specs.Commands.{Stops}
use Rattle.share_commands.proofs.Runs.{At}
use Rattle.share_commands.proofs.commands.run_over.Given as goal

-- what was read so far was printed and written, no fault came, and the latest read was rightly made
abbrev pub invariant-loop-total : goal.invariant-loop-total
invariant-loop-total g l = record {
  at : At (g.C.LineCore.kept l.core (g.C.LineCore.way l.fn.core)) l.total (g.S.Source.state l.fn.input) (g.S.Source.state l.input) (g.K.Sink.state l.fn.out) (g.K.Sink.state l.out);
  empty : g.C.LineCore.lines l.core ≡ [];
  goes : g.C.LineCore.done l.core ≡ None;
  not_ended : NotSet (g.S.Source.state l.input).ended;
  stops : 0 < l.total → Stops (g.C.LineCore.way l.fn.core) (g.S.Source.state l.fn.input) (g.S.Source.state l.input);
  read_faults : (g.S.Source.state l.input).faults ≡ (g.S.Source.state l.fn.input).faults;
  write_faults : (g.K.Sink.state l.out).faults ≡ (g.K.Sink.state l.fn.out).faults;
}

abbrev pub decreases-loop-total : goal.decreases-loop-total
decreases-loop-total g l = 1073741824 + 1 - l.total
