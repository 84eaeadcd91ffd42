use Rattle.std.specs.Prelude.{◌≡◌, ℕ, min, length, take, List, Contains}
use Rattle.std.proofs.Common.{arith, ap, sym, subst, ◌∙◌}
use Rattle.engine_loop.specs.declared.watch.Change.TheVariants.{WritesDrained}
use Rattle.engine_loop.specs.Watches.{serials_in}
use Rattle.engine_loop.proofs.MoreActs.{after-err}
use Rattle.engine_loop.proofs.WatchFlags.{changed-serials, writes-flag}
use Rattle.engine_loop.proofs.WriteActs.{CanWrite, not-flagged, none-offered, took-writes, failed-writes, failed-cuts, none-writes}
use Rattle.engine_loop.proofs.writing.write_once.Goals as goal

pub returns-then-not-may_write-clause-passes : goal.returns-then-not-may_write-clause-passes
returns-then-not-may_write-clause-passes g c = λ rest r st.
    let listed : Contains (serials_in c.args.watch.now) c.args.serial = subst (λ (ns : List ℕ). Contains ns c.args.serial) (sym c.requires.same) c.requires.is_open in
    not-flagged g.E.Engine.serves g.H.Hub.state g.H.Hub.leads r c.args.core.now c.args.hub.now c.args.watch.now c.args.serial c.total-total.result rest listed c.total-total.ensures
    (λ totals e. sym (writes-flag c.args.watch.now c.args.serial c.total-total.result totals e) ∙ sym c.may_write.ensures ∙ c.if-not-may_write.true) st

pub returns-then-is_empty-clause-passes : goal.returns-then-is_empty-clause-passes
returns-then-is_empty-clause-passes g c = λ rest r st.
    none-offered g.E.Engine.serves g.H.Hub.state g.H.Hub.leads r c.args.core.now c.args.hub.now c.args.watch.now c.args.serial c.queued-queued.result.now rest c.queued-queued.ensures.offers
    (sym c.is_empty.ensures ∙ c.if-is_empty.true) st

pub returns-in_err-step-in-Failed-clause-watched : goal.returns-in_err-step-in-Failed-clause-watched
returns-in_err-step-in-Failed-clause-watched g c = changed-serials c.args.watch.now c.change-in-Failed.new.self c.args.serial (WritesDrained c.total-total.result) (c.change-in-Failed.ensures.streams, c.change-in-Failed.ensures.listens)

pub returns-in-NotNow-clause-watched : goal.returns-in-NotNow-clause-watched
returns-in-NotNow-clause-watched g c = changed-serials c.args.watch.now c.change.new.self c.args.serial (WritesDrained c.total-total.result) (c.change.ensures.streams, c.change.ensures.listens)

pub returns-in_ok-step-in-Failed-clause-watched : goal.returns-in_ok-step-in-Failed-clause-watched
returns-in_ok-step-in-Failed-clause-watched g c = changed-serials c.args.watch.now c.change-in-Failed.new.self c.args.serial (WritesDrained c.total-total.result) (c.change-in-Failed.ensures.streams, c.change-in-Failed.ensures.listens)

pub returns-in-Took-clause-passes : goal.returns-in-Took-clause-passes
returns-in-Took-clause-passes g c = λ rest r st.
    let piece : List ℕ = take c.min.result c.queued-queued.result.now in
    let few : c.min.result ≡ min (length c.queued-queued.result.now) 65536 = grind (arith, c.min.ensures) in
    let can : CanWrite g.E.Engine.serves c.args.core.now c.args.watch.now c.args.serial c.total-total.result c.queued-queued.result.now = record { flag = λ totals e. sym (writes-flag c.args.watch.now c.args.serial c.total-total.result totals e) ∙ sym c.may_write.ensures ∙ c.if-not-may_write.false; counts = c.total-total.ensures; offers = c.queued-queued.ensures.offers; some = sym c.is_empty.ensures ∙ c.if-is_empty.false } in
    took-writes g.E.Engine.serves g.H.Hub.state g.H.Hub.leads g.H.Hub.goes_on r c.args.core.now c.taken.new.self c.args.hub.now c.write.new.self c.args.watch.now c.args.watch.now c.args.serial c.total-total.result c.queued-queued.result.now piece (ap (λ (n : ℕ). take n c.queued-queued.result.now) few) rest can c.in-Took.ensures.leads st c.in-Took.count c.in-Took.ensures.fits c.in-Took.ensures.calls c.taken.ensures

pub returns-in-NotNow-clause-passes : goal.returns-in-NotNow-clause-passes
returns-in-NotNow-clause-passes g c = λ rest r st.
    let piece : List ℕ = take c.min.result c.queued-queued.result.now in
    let few : c.min.result ≡ min (length c.queued-queued.result.now) 65536 = grind (arith, c.min.ensures) in
    let can : CanWrite g.E.Engine.serves c.args.core.now c.args.watch.now c.args.serial c.total-total.result c.queued-queued.result.now = record { flag = λ totals e. sym (writes-flag c.args.watch.now c.args.serial c.total-total.result totals e) ∙ sym c.may_write.ensures ∙ c.if-not-may_write.false; counts = c.total-total.ensures; offers = c.queued-queued.ensures.offers; some = sym c.is_empty.ensures ∙ c.if-is_empty.false } in
    none-writes g.E.Engine.serves g.H.Hub.state g.H.Hub.leads g.H.Hub.goes_on r c.args.core.now c.args.core.now c.args.hub.now c.write.new.self c.args.watch.now c.change.new.self c.args.serial c.total-total.result c.queued-queued.result.now piece (ap (λ (n : ℕ). take n c.queued-queued.result.now) few) rest can c.in-NotNow.ensures.leads st (c.change.ensures.streams, c.change.ensures.listens) c.in-NotNow.ensures.calls

pub returns-in_err-step-in-Failed-clause-passes : goal.returns-in_err-step-in-Failed-clause-passes
returns-in_err-step-in-Failed-clause-passes g c = λ rest r st.
    let piece : List ℕ = take c.min.result c.queued-queued.result.now in
    let few : c.min.result ≡ min (length c.queued-queued.result.now) 65536 = grind (arith, c.min.ensures) in
    let can : CanWrite g.E.Engine.serves c.args.core.now c.args.watch.now c.args.serial c.total-total.result c.queued-queued.result.now = record { flag = λ totals e. sym (writes-flag c.args.watch.now c.args.serial c.total-total.result totals e) ∙ sym c.may_write.ensures ∙ c.if-not-may_write.false; counts = c.total-total.ensures; offers = c.queued-queued.ensures.offers; some = sym c.is_empty.ensures ∙ c.if-is_empty.false } in
    after-err c.from_residual.result _ c.from_residual.ensures.0 (failed-cuts g.E.Engine.serves g.H.Hub.state g.H.Hub.leads g.H.Hub.goes_on r c.args.core.now c.step.new.self c.args.hub.now c.write.new.self c.args.watch.now c.change-in-Failed.new.self c.args.serial c.total-total.result c.queued-queued.result.now piece (ap (λ (n : ℕ). take n c.queued-queued.result.now) few) rest can c.in-Failed.ensures.leads st c.in-Failed.ensures.calls)

pub returns-in_ok-step-in-Failed-clause-passes : goal.returns-in_ok-step-in-Failed-clause-passes
returns-in_ok-step-in-Failed-clause-passes g c = λ rest r st.
    let piece : List ℕ = take c.min.result c.queued-queued.result.now in
    let few : c.min.result ≡ min (length c.queued-queued.result.now) 65536 = grind (arith, c.min.ensures) in
    let can : CanWrite g.E.Engine.serves c.args.core.now c.args.watch.now c.args.serial c.total-total.result c.queued-queued.result.now = record { flag = λ totals e. sym (writes-flag c.args.watch.now c.args.serial c.total-total.result totals e) ∙ sym c.may_write.ensures ∙ c.if-not-may_write.false; counts = c.total-total.ensures; offers = c.queued-queued.ensures.offers; some = sym c.is_empty.ensures ∙ c.if-is_empty.false } in
    failed-writes g.E.Engine.serves g.H.Hub.state g.H.Hub.leads g.H.Hub.goes_on r c.args.core.now c.step.new.self c.args.hub.now c.write.new.self c.args.watch.now c.change-in-Failed.new.self c.args.serial c.total-total.result c.queued-queued.result.now piece (ap (λ (n : ℕ). take n c.queued-queued.result.now) few) rest can c.in-Failed.ensures.leads st (c.change-in-Failed.ensures.streams, c.change-in-Failed.ensures.listens) c.in-Failed.ensures.calls c.in_ok-step-in-Failed.ensures
