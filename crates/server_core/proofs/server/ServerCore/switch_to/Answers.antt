use Rattle.std.specs.Prelude.{Bool, not, ◌&&◌}
use Rattle.std.proofs.Common.{sym, ap, ◌∙◌, subst}
use Rattle.share_base.specs.declared.shape.Shape.{Shape}
use Rattle.machine.specs.Targets.{same_target}
use Rattle.machine.specs.States.{Point}
use Rattle.machine.specs.Combining.{when}
use Rattle.machine.specs.Screens.{shape_of, middle}
use Rattle.machine.specs.Switching.{switch}
use Rattle.server_core.specs.Targets.{meant}
use Rattle.server_core.specs.Standing.{Stands}
use Rattle.server_core.proofs.server.ServerCore.switch_to.Goals as goal

pub returns : goal.returns
returns c = λ o b s there h.
    let to = meant c.args.target in
    let may = sym c.if-not-may_switch.false ∙ c.may_switch.ensures b s h in
    let other = sym c.if-has_cursor.false ∙ c.has_cursor.ensures b s h in
    let point = c.middle.ensures.value ∙ ap (λ (k : Shape). middle k) (c.shape_of-shape.ensures.shape b s h) in
    subst (λ (t : Bool). Stands b c.switch.new.self (when (t && not (same_target to s.active)) (switch o to (middle (shape_of s to))) s)) may
    (subst (λ (t : Bool). Stands b c.switch.new.self (when (not t) (switch o to (middle (shape_of s to))) s)) other
    (subst (λ (p : Point). Stands b c.switch.new.self (switch o to p s)) point (c.in_ok-switch.ensures o b s there h)))

pub returns-then-not-may_switch : goal.returns-then-not-may_switch
returns-then-not-may_switch c = λ o b s there h. subst (λ (t : Bool). Stands b c.args.self.now (when (t && not (same_target (meant c.args.target) s.active)) (switch o (meant c.args.target) (middle (shape_of s (meant c.args.target)))) s)) (sym c.if-not-may_switch.true ∙ c.may_switch.ensures b s h) h

pub returns-then-has_cursor : goal.returns-then-has_cursor
returns-then-has_cursor c = λ o b s there h.
    let to = meant c.args.target in
    let may = sym c.if-not-may_switch.false ∙ c.may_switch.ensures b s h in
    let same = sym c.if-has_cursor.true ∙ c.has_cursor.ensures b s h in
    subst (λ (t : Bool). Stands b c.args.self.now (when (t && not (same_target to s.active)) (switch o to (middle (shape_of s to))) s)) may
    (subst (λ (t : Bool). Stands b c.args.self.now (when (not t) (switch o to (middle (shape_of s to))) s)) same h)
