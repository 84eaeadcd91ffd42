use Rattle.machine.specs.Screens.{phase_of}
use Rattle.machine.specs.Hearing.{hear_in}
use Rattle.server_core.proofs.server.ServerCore.hear.Goals as goal

pub returns : goal.returns
returns c = λ b s h. c.in_ok-part_slow.ensures b (hear_in (phase_of s c.args.serial) c.args.message.now c.args.serial s) (c.in_ok-hear_in.ensures b s h)
