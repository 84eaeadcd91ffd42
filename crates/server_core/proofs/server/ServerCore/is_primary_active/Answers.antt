use Rattle.std.proofs.Common.{sym, ap, ◌∙◌}
use Rattle.machine.specs.Targets.{Target, Primary, same_target}
use Rattle.server_core.specs.declared.target.Target as kept
use Rattle.server_core.specs.Targets.{meant}
use Rattle.server_core.proofs.server.ServerCore.is_primary_active.Goals as goal

pub returns-in-Client : goal.returns-in-Client
returns-in-Client c = λ b s h. ap (λ (t : kept.Target). same_target Primary (meant t)) (sym c.in-Client.is) ∙ ap (λ (t : Target). same_target Primary t) h.active

pub returns-in-Primary : goal.returns-in-Primary
returns-in-Primary c = λ b s h. ap (λ (t : kept.Target). same_target Primary (meant t)) (sym c.in-Primary.is) ∙ ap (λ (t : Target). same_target Primary t) h.active
