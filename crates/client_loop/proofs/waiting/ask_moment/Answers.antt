use Rattle.std.proofs.Common.{refl}
use Rattle.hub_acts.specs.declared.act.Act.TheVariants as act
use Rattle.attentive_links.specs.Places.{Asks, at_reads}
use Rattle.client_loop.proofs.TellSteps.{tell-step, moment-told}
use Rattle.client_loop.proofs.Halts.{halt-none}
use Rattle.client_loop.proofs.waiting.ask_moment.Goals as goal

pub returns-in-Ok : goal.returns-in-Ok
returns-in-Ok g c = λ r le st.
    tell-step g.C.Attendant.stands g.L.Link.state g.L.Link.leads r c.args.core.now c.tell_moment.new.core c.args.link.now c.now.new.self c.args.watch.now c.tell_moment.new.watch (λ fs d. Asks) at_reads (act.LinkNow c.in-Ok.moment) r.reads c.tell_moment.result
    g.L.Link.goes_on (record { calls = c.in-Ok.ensures.calls; led = c.in-Ok.ensures.leads }) le st (moment-told g.C.Attendant.stands g.L.Link.state g.L.Link.leads r c.args.core.now c.args.link.now c.args.watch.now c.in-Ok.moment st)
    (c.tell_moment.ensures r.front st.judge.client st.goes st.stood)

pub returns-in-Err : goal.returns-in-Err
returns-in-Err g c = λ r le st.
    (refl, halt-none g.C.Attendant.stands g.L.Link.state g.L.Link.leads r c.args.core.now c.args.link.now c.now.new.self c.args.watch.now (λ fs d. Asks) r.waits r.reads g.L.Link.goes_on c.in-Err.ensures.calls c.in-Err.ensures.leads le st)
