use Rattle.machine.specs.Switching.{tell_leaving}
use Rattle.server_core.proofs.server.ServerCore.switch.Goals as goal

pub returns : goal.returns
returns c = λ o b s there h. c.in_ok-enter.ensures o b (tell_leaving s) there (c.in_ok-tell_leaving.ensures b s h)
