use Rattle.std.specs.Prelude.{OnOk}
use Rattle.std.proofs.Common.{sym, subst}
use Rattle.machine.specs.Targets.{Origin}
use Rattle.machine.specs.Routing.{route}
use Rattle.server_core.specs.declared.target.Target.{Target}
use Rattle.server_core.specs.Targets.{meant, IsThere}
use Rattle.server_core.specs.Leading.{LeadsWhere}
use Rattle.server_core.proofs.server.ServerCore.route.Goals as goal

pub returns-in-Primary : goal.returns-in-Primary
returns-in-Primary c = subst (λ (t : Target). OnOk c.tell_primary.result ((origin : Origin) → LeadsWhere (λ s. IsThere s (meant t)) c.args.self.now c.tell_primary.new.self (route origin (meant t) c.args.message.now))) (sym c.in-Primary.is) c.tell_primary.ensures

pub returns-in-Client : goal.returns-in-Client
returns-in-Client c = subst (λ (t : Target). OnOk c.send.result ((origin : Origin) → LeadsWhere (λ s. IsThere s (meant t)) c.args.self.now c.send.new.self (route origin (meant t) c.args.message.now))) (sym c.in-Client.is) c.send.ensures
