use Rattle.std.specs.Prelude.{not, ◌==◌, filter}
use Rattle.std.proofs.Common.{ap, ◌∙◌}
use Rattle.engine_loop.proofs.MoreActs.{after-err}
use Rattle.engine_loop.proofs.LeaveActs.{rest-left, first-open, leave-more, leave-cut}
use Rattle.engine_loop.proofs.leaving.leave_once.Goals as goal

pub close-requires : goal.close-requires
close-requires g c = record { is_open = first-open c.args.serial c.requires.first.0 (g.H.Hub.state c.args.hub.now).open_now c.requires.first.2 }

pub returns-clause-rest : goal.returns-clause-rest
returns-clause-rest g c = λ rest low is rise. c.in_ok-close.ensures.calls.open_now ∙ ap (filter (λ n. not (n == c.args.serial))) is ∙ rest-left low c.args.serial rest rise

pub returns-clause-leaves : goal.returns-clause-leaves
returns-clause-leaves g c = λ r end turns rest d.
    leave-more g.E.Engine.departs g.H.Hub.state g.H.Hub.leads g.H.Hub.goes_on r end turns c.args.core.now c.closed.new.self c.args.hub.now c.close.new.self c.args.serial rest c.in_ok-close.ensures.calls c.in_ok-close.ensures.leads d c.in_ok-closed.ensures.departs

pub returns-in_err-closed-clause-leaves : goal.returns-in_err-closed-clause-leaves
returns-in_err-closed-clause-leaves g c = λ r end turns rest d.
    after-err c.from_residual-in_err-closed.result _ c.from_residual-in_err-closed.ensures.0 (leave-cut g.E.Engine.departs g.H.Hub.state g.H.Hub.leads g.H.Hub.goes_on r end turns c.args.core.now c.closed.new.self c.args.hub.now c.close.new.self c.args.serial rest c.in_ok-close.ensures.calls c.in_ok-close.ensures.leads d)
