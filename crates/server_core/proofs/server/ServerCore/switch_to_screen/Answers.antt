use Rattle.std.specs.Prelude.{Option}
use Rattle.std.proofs.Common.{sym, subst}
use Rattle.machine.specs.Targets.{Target}
use Rattle.machine.specs.Combining.{for_some, unchanged}
use Rattle.machine.specs.Actions.{switch_to}
use Rattle.server_core.specs.Targets.{meant}
use Rattle.server_core.specs.Standing.{Stands}
use Rattle.server_core.proofs.Open.{target-open}
use Rattle.server_core.proofs.server.ServerCore.switch_to_screen.Goals as goal

pub returns : goal.returns
returns c = λ o b s h.
    let e = c.in-Some.ensures b s h in
    subst (λ (x : Option Target). Stands b c.switch_to.new.self (for_some x (switch_to o) unchanged s)) e (c.in_ok-switch_to.ensures o b s (target-open s c.args.screen.0 (meant c.in-Some.target) (sym e)) h)

pub returns-in_default : goal.returns-in_default
returns-in_default c = λ o b s h. subst (λ (x : Option Target). Stands b c.args.self.now (for_some x (switch_to o) unchanged s)) (c.in_default.ensures b s h) h
