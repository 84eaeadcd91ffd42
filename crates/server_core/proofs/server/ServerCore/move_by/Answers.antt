use Rattle.std.proofs.Common.{sym, subst}
use Rattle.message_codec.specs.declared.messages.Msg.TheVariants as msg
use Rattle.machine.specs.Targets.{Target, OfLine}
use Rattle.machine.specs.GateCalls.{hear_away}
use Rattle.machine.specs.Routing.{route}
use Rattle.server_core.specs.Targets.{meant, IsThere}
use Rattle.server_core.specs.Standing.{Stands}
use Rattle.server_core.proofs.Coordinates.{as_passed}
use Rattle.server_core.proofs.server.ServerCore.move_by.Goals as goal

pub returns : goal.returns
returns c = λ number b s h.
    let away = c.hear_away.ensures b s h in
    subst (λ (t : Target). Stands b c.route.new.self (route (OfLine number) t (msg.MoveBy c.args.dx c.args.dy) (hear_away s))) away.active (as_passed (λ x y. Stands b c.route.new.self (route (OfLine number) (meant c.hear_away.new.self.active) (msg.MoveBy x y) (hear_away s))) c.args.dx c.args.dy c.ranges.dx c.ranges.dy
    (c.in_ok-route.ensures (OfLine number) b (hear_away s) (subst (IsThere s) (sym away.active) h.there) away))
