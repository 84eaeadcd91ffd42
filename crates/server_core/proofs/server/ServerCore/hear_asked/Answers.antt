use Rattle.std.proofs.Common.{subst}
use Rattle.machine.specs.States.{State}
use Rattle.server_core.specs.Standing.{Stands}
use Rattle.server_core.proofs.Dispatch.{first-told}
use Rattle.server_core.proofs.server.ServerCore.hear_asked.Goals as goal

pub returns : goal.returns
returns c = λ asked e b s p h. subst (λ (t : State). Stands b c.hear_first_info.new.self t) (first-told asked c.args.message.now c.in-Some.info c.args.serial s c.in-Some.ensures) (c.in_ok-hear_first_info.ensures asked e b s p h)
