use Rattle.std.specs.Prelude.{refl, Some}
use Rattle.message_codec.specs.declared.messages.Msg.TheVariants as msg
use Rattle.hello_states.specs.Phases.{Joined, after_hearing_in}
use Rattle.hello_states.specs.Handshake.{joined_after_info}
use Rattle.machine.specs.Targets.{Client, Own}
use Rattle.machine.specs.Connections.{advanced}
use Rattle.machine.specs.States.{State}
use Rattle.machine.specs.Screens.{change}
use Rattle.machine.specs.Routing.{route}
use Rattle.server_core.proofs.Open.{lives-open, changed-open}
use Rattle.server_core.proofs.Known.{phase-lives, same-serial}
use Rattle.server_core.proofs.server.ServerCore.reshape.Goals as goal

pub returns : goal.returns
returns c = λ joined b s p h.
    let shaped : State = change c.args.serial (advanced (joined_after_info (Some c.args.shape) s.at joined)) s in
    let there = changed-open c.args.serial (advanced (joined_after_info (Some c.args.shape) s.at joined)) (same-serial (joined_after_info (Some c.args.shape) s.at joined)) s.connections (Client c.args.serial) (lives-open s c.args.serial (phase-lives s c.args.serial (after_hearing_in (Joined joined) s.at) p refl)) in
    c.keep_inside.ensures b (route Own (Client c.args.serial) msg.InfoAck shaped) (c.in_ok-route.ensures Own b shaped there (c.put_shape.ensures joined b s p h))
