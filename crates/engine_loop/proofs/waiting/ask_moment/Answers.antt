use Rattle.std.proofs.Common.{refl}
use Rattle.attentive_acts.specs.Places.{Asks}
use Rattle.engine_loop.specs.Stages.{Is}
use Rattle.engine_loop.proofs.MoreActs.{after-err, cut-none}
use Rattle.engine_loop.proofs.WaitActs.{moment-more, moment-cut}
use Rattle.engine_loop.proofs.waiting.ask_moment.Goals as goal

pub returns-in_err-step-in-Ok-clause-passes : goal.returns-in_err-step-in-Ok-clause-passes
returns-in_err-step-in-Ok-clause-passes g c = λ r st.
    after-err c.from_residual.result _ c.from_residual.ensures.0 (moment-cut g.E.Engine.serves g.H.Hub.state g.H.Hub.leads r c.args.core.now c.args.hub.now c.now.new.self c.args.watch.now c.in-Ok.moment g.H.Hub.goes_on
    (record { calls = c.in-Ok.ensures.calls; led = c.in-Ok.ensures.leads; calm = refl; goes = refl; answered = refl }) st)

pub returns-in_ok-step-in-Ok-clause-passes : goal.returns-in_ok-step-in-Ok-clause-passes
returns-in_ok-step-in-Ok-clause-passes g c = λ r st.
    moment-more g.E.Engine.serves g.H.Hub.state g.H.Hub.leads r c.args.core.now c.step.new.self c.args.hub.now c.now.new.self c.args.watch.now c.in-Ok.moment g.H.Hub.goes_on
    (record { calls = c.in-Ok.ensures.calls; led = c.in-Ok.ensures.leads; calm = refl; goes = refl; answered = refl }) st
    (c.in_ok-step-in-Ok.ensures r.origin st.judge.latest r.front st.judge.state st.reached tt st.served)

pub returns-in-Err-clause-passes : goal.returns-in-Err-clause-passes
returns-in-Err-clause-passes g c = λ r st.
    cut-none g.E.Engine.serves g.H.Hub.state g.H.Hub.leads r c.args.core.now c.args.hub.now c.now.new.self c.args.watch.now (Is (λ fs s. Asks)) g.H.Hub.goes_on c.in-Err.ensures.calls c.in-Err.ensures.leads st
