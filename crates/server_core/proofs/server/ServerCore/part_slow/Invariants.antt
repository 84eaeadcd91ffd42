use Rattle.machine.specs.Combining.{times}
use Rattle.machine.specs.Slow.{part_first_slow}
use Rattle.server_core.specs.Leading.{Leads}
use Rattle.server_core.proofs.server.ServerCore.part_slow.Given as goal

abbrev pub invariant-loop-turn : goal.invariant-loop-turn
invariant-loop-turn l = Leads l.fn.self l.self (times l.turn part_first_slow)
