use Rattle.std.specs.Prelude.{◌≡◌, ◌<◌, ◌≤◌, true, false, nat_le, Option}
use Rattle.std.proofs.Common.{sym, ◌∙◌, subst, arith}
use Rattle.edge_cross.specs.declared.gate.Waiting.{Waiting}
use Rattle.machine.specs.Combining.{when, for_some, unchanged}
use Rattle.machine.specs.Slow.{part_slow}
use Rattle.machine.specs.Timers.{try}
use Rattle.server_core.specs.Standing.{Stands}
use Rattle.server_core.proofs.server.ServerCore.gate_timer.Goals as goal

pub returns-in_default : goal.returns-in_default
returns-in_default c = λ b s h. subst (λ (o : Option Waiting). Stands b c.args.self.now (for_some o (λ w. when (nat_le w.due s.at) (λ t. part_slow (try w t))) unchanged s)) (sym c.in_default.is ∙ c.waiting.ensures s h.gate) h

pub returns-then-wait-moment : goal.returns-then-wait-moment
returns-then-wait-moment c = λ b s h.
    let before : s.at < c.in-Some.wait.due = subst (λ n. n < c.in-Some.wait.due) (c.moment.ensures.moment ∙ h.at) c.if-wait-moment.true in
    let early : nat_le c.in-Some.wait.due s.at ≡ false = grind (arith, before) in
    subst (λ (o : Option Waiting). Stands b c.args.self.now (for_some o (λ w. when (nat_le w.due s.at) (λ t. part_slow (try w t))) unchanged s)) (sym c.in-Some.is ∙ c.waiting.ensures s h.gate)
    (subst (λ x. Stands b c.args.self.now (when x (λ t. part_slow (try c.in-Some.wait t)) s)) (sym early) h)

pub returns : goal.returns
returns c = λ b s h.
    let since : c.in-Some.wait.due ≤ s.at = subst (λ n. c.in-Some.wait.due ≤ n) (c.moment.ensures.moment ∙ h.at) c.if-wait-moment.false in
    let over : nat_le c.in-Some.wait.due s.at ≡ true = grind (arith, since) in
    subst (λ (o : Option Waiting). Stands b c.part_slow.new.self (for_some o (λ w. when (nat_le w.due s.at) (λ t. part_slow (try w t))) unchanged s)) (sym c.in-Some.is ∙ c.waiting.ensures s h.gate)
    (subst (λ x. Stands b c.part_slow.new.self (when x (λ t. part_slow (try c.in-Some.wait t)) s)) (sym over) (c.in_ok-part_slow.ensures b (try c.in-Some.wait s) (c.in_ok-try_edge.ensures b s h)))
