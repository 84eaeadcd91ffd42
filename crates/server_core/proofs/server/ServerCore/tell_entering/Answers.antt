use Rattle.std.proofs.Common.{ap, ◌∙◌, subst, ℤ, ◌≡◌, w16, to_z, of_z}
use Rattle.message_codec.specs.declared.messages.Msg.TheVariants as msg
use Rattle.machine.specs.States.{State}
use Rattle.machine.specs.Routing.{route}
use Rattle.machine.specs.Modifiers.{toggles}
use Rattle.machine.specs.Switching.{next_sequence, at_screen}
use Rattle.pressed_inputs.specs.Inputs.{inputs_of}
use Rattle.screen_crossing.specs.Points.{point_of}
use Rattle.server_core.specs.Targets.{meant}
use Rattle.server_core.specs.Standing.{Stands}
use Rattle.server_core.proofs.Coordinates.{as_sent}
use Rattle.server_core.proofs.server.ServerCore.tell_entering.Goals as goal

pub returns : goal.returns
returns c = λ o b s there h.
    let at : State = at_screen (meant c.args.to) (point_of c.args.point) s in
    let seq = c.saturating_add.ensures ∙ ap next_sequence h.sequence in
    let mask = c.toggles.ensures (inputs_of s) h.pressed in
    let x : to_z w16 (of_z w16 c.coordinate.result) ≡ c.args.point.x = ap (λ (z : ℤ). to_z w16 (of_z w16 z)) c.coordinate.ensures ∙ as_sent c.args.point.x c.requires.left c.requires.right in
    let y : to_z w16 (of_z w16 c.coordinate-2.result) ≡ c.args.point.y = ap (λ (z : ℤ). to_z w16 (of_z w16 z)) c.coordinate-2.ensures ∙ as_sent c.args.point.y c.requires.top c.requires.bottom in
    subst (λ n. Stands b c.route.new.self (route o (meant c.args.to) (msg.Enter c.args.point.x c.args.point.y n (toggles s)) at)) seq
    (subst (λ n. Stands b c.route.new.self (route o (meant c.args.to) (msg.Enter c.args.point.x c.args.point.y c.saturating_add.result n) at)) mask
    (subst (λ z. Stands b c.route.new.self (route o (meant c.args.to) (msg.Enter c.args.point.x z c.saturating_add.result c.toggles.result.0) at)) y
    (subst (λ z. Stands b c.route.new.self (route o (meant c.args.to) (msg.Enter z (to_z w16 (of_z w16 c.coordinate-2.result)) c.saturating_add.result c.toggles.result.0) at)) x
    (c.in_ok-route.ensures o b at there (c.move_to.ensures b s there h)))))
