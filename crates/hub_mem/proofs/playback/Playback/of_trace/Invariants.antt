use Rattle.std.proofs.Common.{take}
use Rattle.hub_mem.specs.Standing.{AddsComing}
use Rattle.hub_mem.proofs.playback.Playback.of_trace.Given as goal

abbrev pub invariant-loop-line : goal.invariant-loop-line
invariant-loop-line l = AddsComing (take l.line-index l.line-items) l.initial.streams l.streams
