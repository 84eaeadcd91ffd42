use Rattle.std.proofs.Common.{sym, ap, ◌∙◌}
use Rattle.machine.specs.Targets.{Client, same_target}
use Rattle.server_core.specs.declared.target.Target as kept
use Rattle.server_core.specs.Targets.{meant}
use Rattle.server_core.proofs.Same.{same-turned}
use Rattle.server_core.proofs.server.ServerCore.has_cursor.Goals as goal

pub returns-in-Client : goal.returns-in-Client
returns-in-Client c = λ b s h. c.is_active.ensures b s h ∙ (same-turned s.active (Client c.in-Client.serial) ∙ ap (λ (t : kept.Target). same_target (meant t) s.active) (sym c.in-Client.is))

pub returns-in-Primary : goal.returns-in-Primary
returns-in-Primary c = λ b s h. c.is_primary_active.ensures b s h ∙ ap (λ (t : kept.Target). same_target (meant t) s.active) (sym c.in-Primary.is)
