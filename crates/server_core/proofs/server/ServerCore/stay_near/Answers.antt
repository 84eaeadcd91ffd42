use Rattle.std.proofs.Common.{sym, ap, ◌∙◌, subst, ℤ, ◌≡◌, w16, to_z, of_z}
use Rattle.share_base.specs.declared.shape.Shape.{Shape}
use Rattle.message_codec.specs.declared.messages.Msg.TheVariants as msg
use Rattle.machine.specs.Targets.{Target, OfLine}
use Rattle.machine.specs.States.{State, Point}
use Rattle.machine.specs.Routing.{route}
use Rattle.machine.specs.Screens.{clamped, shape_of}
use Rattle.screen_crossing.specs.Points.{point_of}
use Rattle.server_core.specs.Targets.{meant, IsThere}
use Rattle.server_core.specs.Standing.{Stands}
use Rattle.server_core.proofs.Coordinates.{as_sent}
use Rattle.server_core.proofs.server.ServerCore.stay_near.Goals as goal

abbrev put : State → Point → State
put s p = record s { cursor = p }

pub returns : goal.returns
returns c = λ number b s h.
    let shape = c.shape_of-shape.ensures.shape b s h ∙ ap (shape_of s) h.active in
    let pixel = c.clamped-pixel.ensures.value ∙ ap (λ (k : Shape). clamped k (point_of c.args.point)) shape in
    let there = c.put_cursor.ensures b s h in
    let new = c.route.new.self in
    let x : to_z w16 (of_z w16 c.coordinate.result) ≡ c.clamped-pixel.result.x = ap (λ (z : ℤ). to_z w16 (of_z w16 z)) c.coordinate.ensures ∙ as_sent c.clamped-pixel.result.x c.clamped-pixel.ensures.pixel.left c.clamped-pixel.ensures.pixel.right in
    let y : to_z w16 (of_z w16 c.coordinate-2.result) ≡ c.clamped-pixel.result.y = ap (λ (z : ℤ). to_z w16 (of_z w16 z)) c.coordinate-2.ensures ∙ as_sent c.clamped-pixel.result.y c.clamped-pixel.ensures.pixel.top c.clamped-pixel.ensures.pixel.bottom in
    subst (λ (p : Point). Stands b new (route (OfLine number) s.active (msg.MoveTo p.x p.y) (put s p))) pixel
    (subst (λ (t : Target). Stands b new (route (OfLine number) t (msg.MoveTo c.clamped-pixel.result.x c.clamped-pixel.result.y) (put s (point_of c.clamped-pixel.result)))) there.active
    (subst (λ z. Stands b new (route (OfLine number) (meant c.put_cursor.new.self.active) (msg.MoveTo c.clamped-pixel.result.x z) (put s (point_of c.clamped-pixel.result)))) y
    (subst (λ z. Stands b new (route (OfLine number) (meant c.put_cursor.new.self.active) (msg.MoveTo z (to_z w16 (of_z w16 c.coordinate-2.result))) (put s (point_of c.clamped-pixel.result)))) x
    (c.in_ok-route.ensures (OfLine number) b (put s (point_of c.clamped-pixel.result)) (subst (IsThere s) (sym there.active) h.there) there))))
