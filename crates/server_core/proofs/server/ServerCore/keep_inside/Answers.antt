use Rattle.std.specs.Prelude.{Bool}
use Rattle.std.proofs.Common.{sym, ap, ◌∙◌, subst}
use Rattle.machine.specs.Combining.{when}
use Rattle.machine.specs.States.{Point}
use Rattle.machine.specs.Screens.{clamped}
use Rattle.machine.specs.Information.{clamp_cursor}
use Rattle.screen_crossing.specs.declared.point.Point as kept
use Rattle.screen_crossing.specs.Points.{point_of}
use Rattle.server_core.specs.Standing.{Stands}
use Rattle.server_core.proofs.server.ServerCore.keep_inside.Goals as goal

pub returns : goal.returns
returns c = λ b s h.
    subst (λ (t : Bool). Stands b c.put_cursor.new.self (when t (clamp_cursor c.args.shape) s)) (sym c.if-not-is_active.false ∙ c.is_active.ensures b s h)
    (subst (λ (q : Point). Stands b c.put_cursor.new.self (record s { cursor = q })) (c.clamped-inside.ensures.value ∙ (ap (λ (p : kept.Point). clamped c.args.shape (point_of p)) c.point.ensures.point ∙ ap (clamped c.args.shape) h.cursor)) (c.put_cursor.ensures b s h))

pub returns-then-not-is_active : goal.returns-then-not-is_active
returns-then-not-is_active c = λ b s h. subst (λ (t : Bool). Stands b c.args.self.now (when t (clamp_cursor c.args.shape) s)) (sym c.if-not-is_active.true ∙ c.is_active.ensures b s h) h
