use Rattle.std.specs.Prelude.{◌≡◌, ℕ, min, length, take}
use Rattle.std.proofs.Common.{arith, refl, ap, sym, ◌∙◌}
use Rattle.attentive_links.specs.Judging.{most_moved}
use Rattle.attentive_links.specs.Places.{at_writes}
use Rattle.client_loop.proofs.Halts.{halt-none}
use Rattle.client_loop.proofs.WriteSteps.{not-flagged, none-queued, may-take, took-writes, none-writes, failed-writes}
use Rattle.client_loop.proofs.writing.write_to.Goals as goal

pub returns-then-not-watch : goal.returns-then-not-watch
returns-then-not-watch g c = λ r le st.
    not-flagged g.C.Attendant.stands g.L.Link.state g.L.Link.leads r c.args.core.now c.args.link.now c.args.watch.now st c.if-not-watch.true

pub returns-then-is_empty : goal.returns-then-is_empty
returns-then-is_empty g c = λ r le st.
    none-queued g.C.Attendant.stands g.L.Link.state g.L.Link.leads r c.args.core.now c.args.link.now c.args.watch.now st c.queued-queued.result.now c.queued-queued.ensures (sym c.is_empty.ensures ∙ c.if-is_empty.true)

pub taken-requires : goal.taken-requires
taken-requires g c =
    let few : c.min.result ≡ min (length c.queued-queued.result.now) most_moved = grind (arith, c.min.ensures) in
    let r = c.requires.there.0 in
    may-take g.C.Attendant.stands g.L.Link.state g.L.Link.leads r c.args.core.now c.args.link.now c.args.watch.now c.requires.there.1 g.L.Link.goes_on c.write.new.self c.if-not-watch.false c.queued-queued.result.now c.queued-queued.ensures
    (sym c.is_empty.ensures ∙ c.if-is_empty.false) (take c.min.result c.queued-queued.result.now) (ap (λ (n : ℕ). take n c.queued-queued.result.now) few) c.in-Took.count c.in-Took.ensures.fits

pub returns-in-Took : goal.returns-in-Took
returns-in-Took g c = λ r le st.
    let few : c.min.result ≡ min (length c.queued-queued.result.now) most_moved = grind (arith, c.min.ensures) in
    took-writes g.C.Attendant.stands g.L.Link.state g.L.Link.leads r c.args.core.now c.args.link.now c.args.watch.now st g.L.Link.goes_on c.write.new.self c.if-not-watch.false c.queued-queued.result.now c.queued-queued.ensures
    (sym c.is_empty.ensures ∙ c.if-is_empty.false) (take c.min.result c.queued-queued.result.now) (ap (λ (n : ℕ). take n c.queued-queued.result.now) few) c.in-Took.count c.in-Took.ensures.fits c.taken.new.self c.taken.ensures (record { calls = c.in-Took.ensures.calls; led = c.in-Took.ensures.leads })

pub returns-in-NotNow : goal.returns-in-NotNow
returns-in-NotNow g c = λ r le st.
    let few : c.min.result ≡ min (length c.queued-queued.result.now) most_moved = grind (arith, c.min.ensures) in
    none-writes g.C.Attendant.stands g.L.Link.state g.L.Link.leads r c.args.core.now c.args.link.now c.args.watch.now st g.L.Link.goes_on c.write.new.self c.if-not-watch.false c.queued-queued.result.now c.queued-queued.ensures
    (sym c.is_empty.ensures ∙ c.if-is_empty.false) (take c.min.result c.queued-queued.result.now) (ap (λ (n : ℕ). take n c.queued-queued.result.now) few) (record { calls = c.in-NotNow.ensures.calls; led = c.in-NotNow.ensures.leads })

pub returns-in-Failed : goal.returns-in-Failed
returns-in-Failed g c = λ r le st.
    let few : c.min.result ≡ min (length c.queued-queued.result.now) most_moved = grind (arith, c.min.ensures) in (
      refl,
      failed-writes g.C.Attendant.stands g.L.Link.state g.L.Link.leads r c.args.core.now c.args.link.now c.args.watch.now st g.L.Link.goes_on c.write.new.self c.if-not-watch.false c.queued-queued.result.now c.queued-queued.ensures
          (sym c.is_empty.ensures ∙ c.if-is_empty.false) (take c.min.result c.queued-queued.result.now) (ap (λ (n : ℕ). take n c.queued-queued.result.now) few) le (record { calls = c.in-Failed.ensures.calls; led = c.in-Failed.ensures.leads }),
    )

pub returns-in-OutOfMemory : goal.returns-in-OutOfMemory
returns-in-OutOfMemory g c = λ r le st.
    (refl, halt-none g.C.Attendant.stands g.L.Link.state g.L.Link.leads r c.args.core.now c.args.link.now c.write.new.self c.args.watch.now at_writes r.waits r.reads g.L.Link.goes_on c.in-OutOfMemory.ensures.calls c.in-OutOfMemory.ensures.leads le st)
