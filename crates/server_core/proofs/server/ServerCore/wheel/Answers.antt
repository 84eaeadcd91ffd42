use Rattle.message_codec.specs.declared.messages.Msg.TheVariants as msg
use Rattle.machine.specs.Targets.{OfLine}
use Rattle.machine.specs.Routing.{route}
use Rattle.server_core.specs.Standing.{Stands}
use Rattle.server_core.proofs.Coordinates.{as_passed}
use Rattle.server_core.proofs.server.ServerCore.wheel.Goals as goal

pub returns : goal.returns
returns c = λ number b s h. as_passed (λ x y. Stands b c.tell_active.new.self (route (OfLine number) s.active (msg.Wheel x y) s)) c.args.dx c.args.dy c.ranges.dx c.ranges.dy (c.in_ok-tell_active.ensures (OfLine number) b s h)
