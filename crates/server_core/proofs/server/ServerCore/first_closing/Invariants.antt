use Rattle.std.specs.Prelude.{None}
use Rattle.server_core.specs.Leading.{Reads}
use Rattle.server_core.proofs.DueOnes.{closing_up_to}
use Rattle.server_core.proofs.server.ServerCore.first_closing.Given as goal

abbrev pub invariant-loop-connection : goal.invariant-loop-connection
invariant-loop-connection l = Reads l.self None (closing_up_to l.connection-index)
