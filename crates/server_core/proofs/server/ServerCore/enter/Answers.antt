use Rattle.machine.specs.Switching.{tell_entering}
use Rattle.screen_crossing.specs.Points.{point_of}
use Rattle.server_core.specs.Targets.{meant}
use Rattle.server_core.proofs.server.ServerCore.enter.Goals as goal

pub returns : goal.returns
returns c = λ o b s there h. c.in_ok-refresh_both.ensures b (tell_entering o (meant c.args.to) (point_of c.args.point) s) (c.in_ok-tell_entering.ensures o b s there h)
