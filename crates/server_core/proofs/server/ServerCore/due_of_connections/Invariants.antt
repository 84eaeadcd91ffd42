use Rattle.server_core.specs.Leading.{Reads}
use Rattle.server_core.proofs.DueOnes.{due_up_to}
use Rattle.server_core.proofs.server.ServerCore.due_of_connections.Given as goal

abbrev pub invariant-loop-connection : goal.invariant-loop-connection
invariant-loop-connection l = Reads l.self l.least (due_up_to l.connection-index)
