use Rattle.std.specs.Prelude.{◌≡◌, length}
use Rattle.std.proofs.Common.{arith, sym, ◌∙◌}
use Rattle.machine.specs.Queues.{total}
use Rattle.engine_loop.specs.declared.watch.Change.TheVariants.{ReadsDrained}
use Rattle.attentive_acts.specs.Judging.{most_moved}
use Rattle.engine_loop.proofs.MoreActs.{after-err}
use Rattle.engine_loop.proofs.WatchFlags.{changed-serials, reads-flag}
use Rattle.engine_loop.proofs.ReadActs.{CanRead, pass-read, no-flag, not-read, got-reads, got-cuts, end-reads, end-cuts, failed-reads, failed-cuts, none-reads}
use Rattle.engine_loop.proofs.reading.read_once.Goals as goal

pub returns-then-not-reads-clause-passes : goal.returns-then-not-reads-clause-passes
returns-then-not-reads-clause-passes g c = λ rest r st.
    pass-read g.E.Engine.serves g.H.Hub.state g.H.Hub.leads r c.args.core.now c.args.hub.now c.args.watch.now c.args.serial rest st
    (not-read st.judge c.args.serial (sym (c.reads.ensures r.origin st.judge.latest r.front st.judge.state st.reached st.served) ∙ c.if-not-reads.true))

pub returns-in_err-step-in-Got-clause-passes : goal.returns-in_err-step-in-Got-clause-passes
returns-in_err-step-in-Got-clause-passes g c = λ rest r st.
    let size : length c.read.new.buf ≡ most_moved = omega (arith, c.requires.room) in
    let can : CanRead g.E.Engine.serves c.args.core.now c.args.watch.now c.args.serial = record { flag = λ totals. sym (reads-flag c.args.watch.now c.args.serial totals) ∙ sym c.may_read.ensures ∙ c.if-not-may_read.false; reads_it = λ o latest front s h k. sym c.if-not-reads.false ∙ c.reads.ensures o latest front s h k } in
    after-err c.from_residual.result _ c.from_residual.ensures.0 (got-cuts g.E.Engine.serves g.H.Hub.state g.H.Hub.leads g.H.Hub.goes_on r c.args.core.now c.step.new.self c.args.hub.now c.read.new.self c.args.watch.now c.args.watch.now c.args.serial c.read.new.buf size rest can c.in-Got.ensures.leads st
    c.in-Got.count (c.in-Got.ensures.fits.0, omega (arith, c.in-Got.ensures.fits.1)) c.in-Got.ensures.calls)

pub returns-in_ok-step-in-Got-clause-passes : goal.returns-in_ok-step-in-Got-clause-passes
returns-in_ok-step-in-Got-clause-passes g c = λ rest r st.
    let size : length c.read.new.buf ≡ most_moved = omega (arith, c.requires.room) in
    let can : CanRead g.E.Engine.serves c.args.core.now c.args.watch.now c.args.serial = record { flag = λ totals. sym (reads-flag c.args.watch.now c.args.serial totals) ∙ sym c.may_read.ensures ∙ c.if-not-may_read.false; reads_it = λ o latest front s h k. sym c.if-not-reads.false ∙ c.reads.ensures o latest front s h k } in
    got-reads g.E.Engine.serves g.H.Hub.state g.H.Hub.leads g.H.Hub.goes_on r c.args.core.now c.step.new.self c.args.hub.now c.read.new.self c.args.watch.now c.args.watch.now c.args.serial c.read.new.buf size rest can c.in-Got.ensures.leads st
    c.in-Got.count (c.in-Got.ensures.fits.0, omega (arith, c.in-Got.ensures.fits.1)) c.in-Got.ensures.calls c.in_ok-step-in-Got.ensures

pub returns-in_err-step-in-End-clause-watched : goal.returns-in_err-step-in-End-clause-watched
returns-in_err-step-in-End-clause-watched g c = changed-serials c.args.watch.now c.change.new.self c.args.serial ReadsDrained (c.change.ensures.streams, c.change.ensures.listens)

pub returns-in_err-step-in-Failed-clause-watched : goal.returns-in_err-step-in-Failed-clause-watched
returns-in_err-step-in-Failed-clause-watched g c = changed-serials c.args.watch.now c.change-in-Failed.new.self c.args.serial ReadsDrained (c.change-in-Failed.ensures.streams, c.change-in-Failed.ensures.listens)

pub returns-in_ok-step-in-End-clause-watched : goal.returns-in_ok-step-in-End-clause-watched
returns-in_ok-step-in-End-clause-watched g c = changed-serials c.args.watch.now c.change.new.self c.args.serial ReadsDrained (c.change.ensures.streams, c.change.ensures.listens)

pub returns-in-NotNow-clause-watched : goal.returns-in-NotNow-clause-watched
returns-in-NotNow-clause-watched g c = changed-serials c.args.watch.now c.change-in-NotNow.new.self c.args.serial ReadsDrained (c.change-in-NotNow.ensures.streams, c.change-in-NotNow.ensures.listens)

pub returns-in_ok-step-in-Failed-clause-watched : goal.returns-in_ok-step-in-Failed-clause-watched
returns-in_ok-step-in-Failed-clause-watched g c = changed-serials c.args.watch.now c.change-in-Failed.new.self c.args.serial ReadsDrained (c.change-in-Failed.ensures.streams, c.change-in-Failed.ensures.listens)

pub returns-in_err-step-in-End-clause-passes : goal.returns-in_err-step-in-End-clause-passes
returns-in_err-step-in-End-clause-passes g c = λ rest r st.
    let size : length c.read.new.buf ≡ most_moved = omega (arith, c.requires.room) in
    let can : CanRead g.E.Engine.serves c.args.core.now c.args.watch.now c.args.serial = record { flag = λ totals. sym (reads-flag c.args.watch.now c.args.serial totals) ∙ sym c.may_read.ensures ∙ c.if-not-may_read.false; reads_it = λ o latest front s h k. sym c.if-not-reads.false ∙ c.reads.ensures o latest front s h k } in
    after-err c.from_residual-in_err-step-in-End.result _ c.from_residual-in_err-step-in-End.ensures.0 (end-cuts g.E.Engine.serves g.H.Hub.state g.H.Hub.leads g.H.Hub.goes_on r c.args.core.now c.step-in-End.new.self c.args.hub.now c.read.new.self c.args.watch.now c.change.new.self c.args.serial c.read.new.buf size rest can c.in-End.ensures.leads st c.in-End.ensures.calls)

pub returns-in_ok-step-in-End-clause-passes : goal.returns-in_ok-step-in-End-clause-passes
returns-in_ok-step-in-End-clause-passes g c = λ rest r st.
    let size : length c.read.new.buf ≡ most_moved = omega (arith, c.requires.room) in
    let can : CanRead g.E.Engine.serves c.args.core.now c.args.watch.now c.args.serial = record { flag = λ totals. sym (reads-flag c.args.watch.now c.args.serial totals) ∙ sym c.may_read.ensures ∙ c.if-not-may_read.false; reads_it = λ o latest front s h k. sym c.if-not-reads.false ∙ c.reads.ensures o latest front s h k } in
    end-reads g.E.Engine.serves g.H.Hub.state g.H.Hub.leads g.H.Hub.goes_on r c.args.core.now c.step-in-End.new.self c.args.hub.now c.read.new.self c.args.watch.now c.change.new.self c.args.serial c.read.new.buf size rest can c.in-End.ensures.leads st (c.change.ensures.streams, c.change.ensures.listens) c.in-End.ensures.calls c.in_ok-step-in-End.ensures

pub returns-in_err-step-in-Failed-clause-passes : goal.returns-in_err-step-in-Failed-clause-passes
returns-in_err-step-in-Failed-clause-passes g c = λ rest r st.
    let size : length c.read.new.buf ≡ most_moved = omega (arith, c.requires.room) in
    let can : CanRead g.E.Engine.serves c.args.core.now c.args.watch.now c.args.serial = record { flag = λ totals. sym (reads-flag c.args.watch.now c.args.serial totals) ∙ sym c.may_read.ensures ∙ c.if-not-may_read.false; reads_it = λ o latest front s h k. sym c.if-not-reads.false ∙ c.reads.ensures o latest front s h k } in
    after-err c.from_residual-in_err-step-in-Failed.result _ c.from_residual-in_err-step-in-Failed.ensures.0 (failed-cuts g.E.Engine.serves g.H.Hub.state g.H.Hub.leads g.H.Hub.goes_on r c.args.core.now c.step-in-Failed.new.self c.args.hub.now c.read.new.self c.args.watch.now c.change-in-Failed.new.self c.args.serial c.read.new.buf size rest can c.in-Failed.ensures.leads st c.in-Failed.ensures.calls)

pub returns-in_ok-step-in-Failed-clause-passes : goal.returns-in_ok-step-in-Failed-clause-passes
returns-in_ok-step-in-Failed-clause-passes g c = λ rest r st.
    let size : length c.read.new.buf ≡ most_moved = omega (arith, c.requires.room) in
    let can : CanRead g.E.Engine.serves c.args.core.now c.args.watch.now c.args.serial = record { flag = λ totals. sym (reads-flag c.args.watch.now c.args.serial totals) ∙ sym c.may_read.ensures ∙ c.if-not-may_read.false; reads_it = λ o latest front s h k. sym c.if-not-reads.false ∙ c.reads.ensures o latest front s h k } in
    failed-reads g.E.Engine.serves g.H.Hub.state g.H.Hub.leads g.H.Hub.goes_on r c.args.core.now c.step-in-Failed.new.self c.args.hub.now c.read.new.self c.args.watch.now c.change-in-Failed.new.self c.args.serial c.read.new.buf size rest can c.in-Failed.ensures.leads st (c.change-in-Failed.ensures.streams, c.change-in-Failed.ensures.listens) c.in-Failed.ensures.calls c.in_ok-step-in-Failed.ensures

pub returns-in-NotNow-clause-passes : goal.returns-in-NotNow-clause-passes
returns-in-NotNow-clause-passes g c = λ rest r st.
    let size : length c.read.new.buf ≡ most_moved = omega (arith, c.requires.room) in
    let can : CanRead g.E.Engine.serves c.args.core.now c.args.watch.now c.args.serial = record { flag = λ totals. sym (reads-flag c.args.watch.now c.args.serial totals) ∙ sym c.may_read.ensures ∙ c.if-not-may_read.false; reads_it = λ o latest front s h k. sym c.if-not-reads.false ∙ c.reads.ensures o latest front s h k } in
    none-reads g.E.Engine.serves g.H.Hub.state g.H.Hub.leads g.H.Hub.goes_on r c.args.core.now c.args.core.now c.args.hub.now c.read.new.self c.args.watch.now c.change-in-NotNow.new.self c.args.serial c.read.new.buf size rest can c.in-NotNow.ensures.leads st (c.change-in-NotNow.ensures.streams, c.change-in-NotNow.ensures.listens) c.in-NotNow.ensures.calls

pub returns-then-not-may_read-clause-passes : goal.returns-then-not-may_read-clause-passes
returns-then-not-may_read-clause-passes g c = λ rest r st.
    pass-read g.E.Engine.serves g.H.Hub.state g.H.Hub.leads r c.args.core.now c.args.hub.now c.args.watch.now c.args.serial rest st
    (no-flag st.judge c.args.watch.now c.args.serial st.flags (sym (reads-flag c.args.watch.now c.args.serial (total st.judge.state.routed)) ∙ sym c.may_read.ensures ∙ c.if-not-may_read.true))
