use Rattle.std.specs.Prelude.{true, false}
use Rattle.std.proofs.Common.{refl, sym, ◌∙◌}
use Rattle.machine.specs.Readings.{accepts}
use Rattle.engine_loop.specs.declared.watch.Watch.{Watch}
use Rattle.server_engine.specs.Engines.{Reads}
use Rattle.engine_loop.proofs.MoreActs.{after-err}
use Rattle.engine_loop.proofs.AcceptActs.{pass-accept, not-listening, not-accepting, new-accepts, new-cuts, none-accepts, failed-accepts}
use Rattle.engine_loop.proofs.accepting.accept_once.Goals as goal

pub returns-then-not-watch-clause-passes : goal.returns-then-not-watch-clause-passes
returns-then-not-watch-clause-passes g c = λ left some r st.
    pass-accept g.E.Engine.serves g.H.Hub.state g.H.Hub.leads r c.args.core.now c.args.hub.now c.args.watch.now left st (not-listening st.judge c.args.watch.now st.flags c.if-not-watch.true)

pub returns-then-not-accepts-clause-passes : goal.returns-then-not-accepts-clause-passes
returns-then-not-accepts-clause-passes g c = λ left some r st.
    pass-accept g.E.Engine.serves g.H.Hub.state g.H.Hub.leads r c.args.core.now c.args.hub.now c.args.watch.now left st
    (not-accepting st.judge (sym (c.accepts.ensures r.origin st.judge.latest r.front st.judge.state st.reached st.served) ∙ c.if-not-accepts.true))

pub returns-in_err-open-in-New-clause-passes : goal.returns-in_err-open-in-New-clause-passes
returns-in_err-open-in-New-clause-passes g c = λ left some r st.
    let may : Reads g.E.Engine.serves c.args.core.now true accepts = λ o latest front s h k. sym c.if-not-accepts.false ∙ c.accepts.ensures o latest front s h k in
    after-err c.from_residual.result _ c.from_residual.ensures.0 (new-cuts g.E.Engine.serves g.H.Hub.state g.H.Hub.leads g.H.Hub.goes_on r c.args.core.now c.args.core.now c.args.hub.now c.accept.new.self c.args.watch.now c.open.new.self c.if-not-watch.false may c.in-New.ensures.leads left some st c.in-New.serial c.in-New.ensures.fits c.in-New.ensures.calls)

pub returns-in_err-step-in-New-clause-passes : goal.returns-in_err-step-in-New-clause-passes
returns-in_err-step-in-New-clause-passes g c = λ left some r st.
    let may : Reads g.E.Engine.serves c.args.core.now true accepts = λ o latest front s h k. sym c.if-not-accepts.false ∙ c.accepts.ensures o latest front s h k in
    after-err c.from_residual-in_err-step-in-New.result _ c.from_residual-in_err-step-in-New.ensures.0 (new-cuts g.E.Engine.serves g.H.Hub.state g.H.Hub.leads g.H.Hub.goes_on r c.args.core.now c.step.new.self c.args.hub.now c.accept.new.self c.args.watch.now c.open.new.self c.if-not-watch.false may c.in-New.ensures.leads left some st c.in-New.serial c.in-New.ensures.fits c.in-New.ensures.calls)

pub returns-in_ok-step-in-New-clause-passes : goal.returns-in_ok-step-in-New-clause-passes
returns-in_ok-step-in-New-clause-passes g c = λ left some r st.
    let may : Reads g.E.Engine.serves c.args.core.now true accepts = λ o latest front s h k. sym c.if-not-accepts.false ∙ c.accepts.ensures o latest front s h k in
    new-accepts g.E.Engine.serves g.H.Hub.state g.H.Hub.leads g.H.Hub.goes_on r c.args.core.now c.step.new.self c.args.hub.now c.accept.new.self c.args.watch.now c.open.new.self c.if-not-watch.false may c.in-New.ensures.leads left some st c.in-New.serial c.in-New.ensures.fits c.in-New.ensures.calls c.in_ok-open-in-New.ensures.ok c.in_ok-step-in-New.ensures

pub returns-in-NotNow-clause-passes : goal.returns-in-NotNow-clause-passes
returns-in-NotNow-clause-passes g c = λ left some r st.
    let may : Reads g.E.Engine.serves c.args.core.now true accepts = λ o latest front s h k. sym c.if-not-accepts.false ∙ c.accepts.ensures o latest front s h k in
    let watch : Watch = record { listens = false; streams = c.args.watch.now.streams } in
    none-accepts g.E.Engine.serves g.H.Hub.state g.H.Hub.leads g.H.Hub.goes_on r c.args.core.now c.args.core.now c.args.hub.now c.accept.new.self c.args.watch.now watch c.if-not-watch.false may c.in-NotNow.ensures.leads left some st c.in-NotNow.ensures.calls refl

pub returns-in-Failed-clause-passes : goal.returns-in-Failed-clause-passes
returns-in-Failed-clause-passes g c = λ left some r st.
    let may : Reads g.E.Engine.serves c.args.core.now true accepts = λ o latest front s h k. sym c.if-not-accepts.false ∙ c.accepts.ensures o latest front s h k in
    let watch : Watch = record { listens = false; streams = c.args.watch.now.streams } in
    failed-accepts g.E.Engine.serves g.H.Hub.state g.H.Hub.leads g.H.Hub.goes_on r c.args.core.now c.args.core.now c.args.hub.now c.accept.new.self c.args.watch.now watch c.if-not-watch.false may c.in-Failed.ensures.leads left some st c.in-Failed.ensures.calls refl
