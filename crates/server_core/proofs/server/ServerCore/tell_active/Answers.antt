use Rattle.std.proofs.Common.{sym, subst}
use Rattle.machine.specs.Targets.{Target}
use Rattle.machine.specs.Routing.{route}
use Rattle.server_core.specs.Targets.{IsThere}
use Rattle.server_core.specs.Standing.{Stands}
use Rattle.server_core.proofs.server.ServerCore.tell_active.Goals as goal

pub returns : goal.returns
returns c = λ o b s h. subst (λ (t : Target). Stands b c.route.new.self (route o t c.args.message.now s)) h.active (c.in_ok-route.ensures o b s (subst (IsThere s) (sym h.active) h.there) h)
