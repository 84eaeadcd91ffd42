use Rattle.server_core.specs.Leading.{Leads}
use Rattle.server_core.proofs.ToldJoined.{tells}
use Rattle.server_core.proofs.server.ServerCore.tell_joined.Given as goal

abbrev pub invariant-loop-index : goal.invariant-loop-index
invariant-loop-index l = Leads l.fn.self l.self (tells l.index l.message)
