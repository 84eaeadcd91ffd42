use Rattle.std.proofs.Common.{take}
use Rattle.hub_mem.specs.Standing.{Hears}
use Rattle.hub_mem.proofs.streams.Streams.hear_all.Given as goal

abbrev pub invariant-loop-line : goal.invariant-loop-line
invariant-loop-line l = Hears (take l.line-index l.lines) l.fn.self l.self
