use Rattle.std.proofs.Common.{sym, subst}
use Rattle.machine.specs.Targets.{Target}
use Rattle.machine.specs.States.{Point}
use Rattle.machine.specs.Screens.{shape_of}
use Rattle.machine.specs.Crossing.{entry_point}
use Rattle.machine.specs.Switching.{switch}
use Rattle.server_core.specs.Targets.{meant, IsThere}
use Rattle.server_core.specs.Standing.{Stands}
use Rattle.server_core.proofs.Passed.{holder-open}
use Rattle.server_core.proofs.server.ServerCore.go_through.Goals as goal

pub returns : goal.returns
returns c = λ o b s h.
    let has = c.holder-to.ensures b s h in
    subst (λ (t : Target). Stands b c.switch.new.self (switch o t (entry_point c.args.way.side (shape_of s t) c.args.way.landing.t) s)) has
    (subst (λ (p : Point). Stands b c.switch.new.self (switch o (meant c.holder-to.result) p s)) (c.entry_at-point.ensures.point b s h)
    (c.in_ok-switch.ensures o b s (subst (IsThere s) (sym has) (holder-open s c.args.way.landing.screen.0)) h))
