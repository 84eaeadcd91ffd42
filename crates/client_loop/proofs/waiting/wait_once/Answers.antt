use Rattle.std.specs.Prelude.{◌+◌}
use Rattle.attentive_links.specs.Places.{Waits}
use Rattle.client_loop.proofs.WaitSteps.{wait-ready, wait-over, wait-failed}
use Rattle.client_loop.proofs.Halts.{halt-none}
use Rattle.std.proofs.Common.{arith, refl}
use Rattle.client_loop.proofs.waiting.wait_once.Goals as goal

pub returns-in-Ready : goal.returns-in-Ready
returns-in-Ready g c = λ r lt st.
    wait-ready g.C.Attendant.stands g.L.Link.state g.L.Link.leads g.L.Link.goes_on r c.args.core.now c.args.link.now c.wait.new.self c.args.watch.now c.timeout.result st (c.timeout.ensures.value r.front st.judge.client st.goes st.stood)
    c.in-Ready.readable c.in-Ready.writable c.heed.new.self c.heed.ensures (record { calls = c.in-Ready.ensures.calls; led = c.in-Ready.ensures.leads })

pub returns-in-Over : goal.returns-in-Over
returns-in-Over g c = λ r lt st. (
  refl,
  wait-over g.C.Attendant.stands g.L.Link.state g.L.Link.leads g.L.Link.goes_on r c.args.core.now c.args.link.now c.wait.new.self c.args.watch.now c.timeout.result st (c.timeout.ensures.value r.front st.judge.client st.goes st.stood)
      lt (record { calls = c.in-Over.ensures.calls; led = c.in-Over.ensures.leads }),
)

pub returns-in-Failed : goal.returns-in-Failed
returns-in-Failed g c = λ r lt st. (
  refl,
  wait-failed g.C.Attendant.stands g.L.Link.state g.L.Link.leads g.L.Link.goes_on r c.args.core.now c.args.link.now c.wait.new.self c.args.watch.now c.timeout.result st (c.timeout.ensures.value r.front st.judge.client st.goes st.stood)
      lt (record { calls = c.in-Failed.ensures.calls; led = c.in-Failed.ensures.leads }),
)

pub returns-in-OutOfMemory : goal.returns-in-OutOfMemory
returns-in-OutOfMemory g c = λ r lt st.
    (refl, halt-none g.C.Attendant.stands g.L.Link.state g.L.Link.leads r c.args.core.now c.args.link.now c.wait.new.self c.args.watch.now (λ fs d. Waits) (r.waits + 1) r.reads g.L.Link.goes_on c.in-OutOfMemory.ensures.calls c.in-OutOfMemory.ensures.leads (omega (arith, lt)) st)
