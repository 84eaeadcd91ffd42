use Rattle.std.specs.Prelude.{take}
use Rattle.machine.specs.Targets.{Origin}
use Rattle.machine.specs.Actions.{act_all}
use Rattle.server_core.specs.Leading.{Leads}
use Rattle.server_core.proofs.server.ServerCore.act_all.Given as goal

abbrev pub invariant-loop-action : goal.invariant-loop-action
invariant-loop-action l = (o : Origin) → Leads l.fn.self l.self (act_all o (take l.action-index l.list))
