use Rattle.std.proofs.Common.{subst}
use Rattle.machine.specs.States.{State}
use Rattle.server_core.specs.Standing.{Stands}
use Rattle.server_core.proofs.Dispatch.{later-told}
use Rattle.server_core.proofs.server.ServerCore.hear_counted.Goals as goal

pub returns-in-Some : goal.returns-in-Some
returns-in-Some c = λ joined b s p h. subst (λ (t : State). Stands b c.hear_later_info.new.self t) (later-told joined c.args.message.now c.in-Some.info c.args.serial s c.in-Some.ensures) (c.in_ok-hear_later_info.ensures joined b s p h)
