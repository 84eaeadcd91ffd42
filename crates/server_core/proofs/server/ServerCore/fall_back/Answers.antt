use Rattle.std.proofs.Common.{ap, ◌∙◌, subst}
use Rattle.machine.specs.Targets.{Primary, Own}
use Rattle.machine.specs.States.{Point}
use Rattle.machine.specs.Screens.{middle}
use Rattle.machine.specs.Switching.{enter}
use Rattle.server_core.specs.Standing.{Stands}
use Rattle.server_core.proofs.server.ServerCore.fall_back.Goals as goal

pub returns : goal.returns
returns c = λ b s h. subst (λ (p : Point). Stands b c.enter.new.self (enter Own Primary p s)) (c.middle-point.ensures.value ∙ ap middle (c.shape-primary.ensures.shape ∙ h.primary_shape)) (c.in_ok-enter.ensures Own b s tt h)
