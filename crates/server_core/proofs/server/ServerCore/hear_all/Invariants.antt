use Rattle.std.specs.Prelude.{take}
use Rattle.machine.specs.Combining.{for_each}
use Rattle.machine.specs.Hearing.{hear}
use Rattle.server_core.specs.Leading.{Leads}
use Rattle.server_core.proofs.server.ServerCore.hear_all.Given as goal

abbrev pub invariant-loop-message : goal.invariant-loop-message
invariant-loop-message l = Leads l.fn.self l.self (for_each (take l.message-index l.messages) (hear l.serial))
