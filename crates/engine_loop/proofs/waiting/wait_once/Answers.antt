use Rattle.std.specs.Prelude.{◌≡◌, List, Some, fold}
use Rattle.std.proofs.Common.{ap, sym, subst, ◌∙◌}
use Rattle.hub_acts.specs.declared.act.Act.TheVariants as act
use Rattle.hub_acts.specs.declared.answers.Waited.TheVariants as waited
use Rattle.hub_acts.specs.declared.marks.Mark.{Mark}
use Rattle.hub_acts.specs.Hubs.{HubCalls}
use Rattle.attentive_acts.specs.Flags.{Flags, with_mark}
use Rattle.attentive_acts.specs.Judging.{timeout}
use Rattle.engine_loop.specs.Watches.{Sets}
use Rattle.engine_loop.specs.Stages.{IsWaiting}
use Rattle.engine_loop.proofs.MoreActs.{cut-none}
use Rattle.engine_loop.proofs.WaitActs.{wait-ready, wait-over, wait-failed}
use Rattle.engine_loop.proofs.waiting.wait_once.Goals as goal

pub returns-in-Ready-clause-same : goal.returns-in-Ready-clause-same
returns-in-Ready-clause-same g c = c.heed_all.ensures.serials ∙ c.requires.same ∙ sym c.in-Ready.ensures.calls.open_now

pub returns-in-Ready-clause-waits : goal.returns-in-Ready-clause-waits
returns-in-Ready-clause-waits g c = λ r calm st.
    let soon : c.timeout.result ≡ timeout st.judge.flags st.judge.state = c.timeout.ensures.value r.origin st.judge.latest r.front st.judge.state st.reached st.served st.watched ∙ ap (λ (fs : Flags). timeout fs st.judge.state) (sym st.flags) in
    let sets : Sets c.args.watch.now c.heed_all.new.self (λ fs. fold with_mark fs c.wait.new.ready) = subst (λ (ms : List Mark). Sets c.args.watch.now c.heed_all.new.self (λ fs. fold with_mark fs ms)) c.as_slice.ensures.value c.heed_all.ensures in
    wait-ready g.E.Engine.serves g.H.Hub.state g.H.Hub.leads r c.args.core.now c.args.hub.now c.wait.new.self c.args.watch.now c.heed_all.new.self c.timeout.result c.wait.new.ready g.H.Hub.goes_on c.in-Ready.ensures.calls c.in-Ready.ensures.leads calm st soon sets

pub returns-in-Over-clause-waits : goal.returns-in-Over-clause-waits
returns-in-Over-clause-waits g c = λ r calm st.
    let soon : c.timeout.result ≡ timeout st.judge.flags st.judge.state = c.timeout.ensures.value r.origin st.judge.latest r.front st.judge.state st.reached st.served st.watched ∙ ap (λ (fs : Flags). timeout fs st.judge.state) (sym st.flags) in
    wait-over g.E.Engine.serves g.H.Hub.state g.H.Hub.leads r c.args.core.now c.args.hub.now c.wait.new.self c.args.watch.now c.timeout.result g.H.Hub.goes_on
    (subst (λ (ms : List Mark). HubCalls (Some (act.Wait c.timeout.result waited.Over ms)) (g.H.Hub.state c.args.hub.now) (g.H.Hub.state c.wait.new.self)) c.in-Over.ensures.fits c.in-Over.ensures.calls) c.in-Over.ensures.leads calm st soon

pub returns-in-Failed-clause-waits : goal.returns-in-Failed-clause-waits
returns-in-Failed-clause-waits g c = λ r calm st.
    let soon : c.timeout.result ≡ timeout st.judge.flags st.judge.state = c.timeout.ensures.value r.origin st.judge.latest r.front st.judge.state st.reached st.served st.watched ∙ ap (λ (fs : Flags). timeout fs st.judge.state) (sym st.flags) in
    wait-failed g.E.Engine.serves g.H.Hub.state g.H.Hub.leads r c.args.core.now c.args.hub.now c.wait.new.self c.args.watch.now c.timeout.result g.H.Hub.goes_on
    (subst (λ (ms : List Mark). HubCalls (Some (act.Wait c.timeout.result waited.Failed ms)) (g.H.Hub.state c.args.hub.now) (g.H.Hub.state c.wait.new.self)) c.in-Failed.ensures.fits c.in-Failed.ensures.calls) c.in-Failed.ensures.leads calm st soon

pub returns-in-OutOfMemory-clause-waits : goal.returns-in-OutOfMemory-clause-waits
returns-in-OutOfMemory-clause-waits g c = λ r calm st.
    cut-none g.E.Engine.serves g.H.Hub.state g.H.Hub.leads r c.args.core.now c.args.hub.now c.wait.new.self c.args.watch.now IsWaiting g.H.Hub.goes_on c.in-OutOfMemory.ensures.calls c.in-OutOfMemory.ensures.leads st
