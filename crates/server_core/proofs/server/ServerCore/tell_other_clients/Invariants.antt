use Rattle.server_core.specs.Leading.{Leads}
use Rattle.server_core.proofs.TellOthers.{tells_others}
use Rattle.server_core.proofs.server.ServerCore.tell_other_clients.Given as goal

abbrev pub invariant-loop-index : goal.invariant-loop-index
invariant-loop-index l = Leads l.fn.self l.self (tells_others l.serial l.index l.message)
