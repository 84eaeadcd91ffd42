use Rattle.server_core.specs.Leading.{Leads}
use Rattle.server_core.proofs.Timed.{up_to}
use Rattle.server_core.proofs.server.ServerCore.timers.Given as goal

abbrev pub invariant-loop-place : goal.invariant-loop-place
invariant-loop-place l = Leads l.fn.self l.self (up_to l.timer l.place)
