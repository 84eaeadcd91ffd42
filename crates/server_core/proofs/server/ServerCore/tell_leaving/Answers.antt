use Rattle.std.proofs.Common.{sym, subst}
use Rattle.message_codec.specs.declared.messages.Msg.TheVariants as msg
use Rattle.machine.specs.Targets.{Target, Own}
use Rattle.machine.specs.Routing.{route}
use Rattle.server_core.specs.Targets.{IsThere}
use Rattle.server_core.specs.Standing.{Stands}
use Rattle.server_core.proofs.server.ServerCore.tell_leaving.Goals as goal

pub returns : goal.returns
returns c = λ b s h. subst (λ (t : Target). Stands b c.route.new.self (route Own t msg.Leave s)) h.active (c.in_ok-route.ensures Own b s (subst (IsThere s) (sym h.active) h.there) h)
