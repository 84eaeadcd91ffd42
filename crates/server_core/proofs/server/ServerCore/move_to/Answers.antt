use Rattle.std.proofs.Common.{subst}
use Rattle.machine.specs.Switching.{at_screen}
use Rattle.screen_crossing.specs.declared.point.Point.{Point}
use Rattle.screen_crossing.specs.Points.{point_of}
use Rattle.server_core.specs.Targets.{meant}
use Rattle.server_core.specs.Standing.{Stands}
use Rattle.server_core.proofs.Moved.{stands-at}
use Rattle.server_core.proofs.server.ServerCore.move_to.Goals as goal

pub returns : goal.returns
returns c = λ b s there h. subst (λ (p : Point). Stands b (record c.args.self.now { active = c.args.to; cursor = c.new-self.result; sequence = c.saturating_add-self.result; gate = c.reset.new.self }) (at_screen (meant c.args.to) (point_of p) s)) c.new-self.ensures
    (stands-at b c.args.self.now s c.args.to c.new-self.result c.saturating_add-self.result c.reset.new.self there h c.saturating_add-self.ensures (c.reset.ensures s h.gate))
