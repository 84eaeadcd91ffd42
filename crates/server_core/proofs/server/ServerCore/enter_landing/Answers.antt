use Rattle.std.specs.Prelude.{Option}
use Rattle.std.proofs.Common.{sym, subst}
use Rattle.machine.specs.Targets.{Target}
use Rattle.machine.specs.States.{Point}
use Rattle.machine.specs.Combining.{for_some, unchanged}
use Rattle.machine.specs.Screens.{shape_of}
use Rattle.machine.specs.Crossing.{entry_point}
use Rattle.machine.specs.Switching.{switch}
use Rattle.server_core.specs.Targets.{meant}
use Rattle.server_core.specs.Standing.{Stands}
use Rattle.server_core.proofs.Open.{target-open}
use Rattle.server_core.proofs.server.ServerCore.enter_landing.Goals as goal

pub returns : goal.returns
returns c = λ o b s h.
    let e = c.in-Some.ensures b s h in
    subst (λ (x : Option Target). Stands b c.switch.new.self (for_some x (λ t. switch o t (entry_point c.args.side (shape_of s t) c.args.landing.t)) unchanged s)) e
    (subst (λ (p : Point). Stands b c.switch.new.self (switch o (meant c.in-Some.target) p s)) (c.entry_at-point.ensures.point b s h)
    (c.in_ok-switch.ensures o b s (target-open s c.args.landing.screen.0 (meant c.in-Some.target) (sym e)) h))

pub returns-in_default : goal.returns-in_default
returns-in_default c = λ o b s h. subst (λ (x : Option Target). Stands b c.args.self.now (for_some x (λ t. switch o t (entry_point c.args.side (shape_of s t) c.args.landing.t)) unchanged s)) (c.in_default.ensures b s h) h
