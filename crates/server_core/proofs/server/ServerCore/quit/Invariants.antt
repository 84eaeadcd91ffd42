use Rattle.server_core.specs.Leading.{Leads}
use Rattle.server_core.proofs.Goodbyes.{byes}
use Rattle.server_core.proofs.server.ServerCore.quit.Given as goal

abbrev pub invariant-loop-index : goal.invariant-loop-index
invariant-loop-index l = Leads l.fn.self l.self (byes l.index)
