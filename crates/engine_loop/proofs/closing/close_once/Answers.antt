use Rattle.std.specs.Prelude.{ℕ, ◌<◌, List, not, ◌==◌, filter, length, Contains}
use Rattle.std.proofs.Common.{refl, ap, sym, subst, ◌∙◌}
use Rattle.reached_states.proofs.OpenAfter.{closing-is-open}
use Rattle.engine_loop.specs.Stages.{IsToClose}
use Rattle.engine_loop.specs.Watches.{serials_in}
use Rattle.engine_loop.proofs.WatchFlags.{closes-serials}
use Rattle.engine_loop.proofs.MoreActs.{after-err, cut-none}
use Rattle.engine_loop.proofs.CloseActs.{close-more, close-cut, moves-closed, one-fewer}
use Rattle.engine_loop.proofs.closing.close_once.Goals as goal

pub returns-in_err-close-clause-passes : goal.returns-in_err-close-clause-passes
returns-in_err-close-clause-passes g c = λ r st.
    after-err c.from_residual.result _ c.from_residual.ensures.0 (cut-none g.E.Engine.serves g.H.Hub.state g.H.Hub.leads r c.args.core.now c.args.hub.now c.close.new.self c.args.watch.now (IsToClose c.args.serial) g.H.Hub.goes_on c.in_err-close.ensures.calls c.in_err-close.ensures.leads st)

pub returns-in_err-closed-clause-passes : goal.returns-in_err-closed-clause-passes
returns-in_err-closed-clause-passes g c = λ r st.
    after-err c.from_residual-in_err-closed.result _ c.from_residual-in_err-closed.ensures.0 (close-cut g.E.Engine.serves g.H.Hub.state g.H.Hub.leads r c.args.core.now c.args.hub.now c.close.new.self c.args.watch.now c.args.serial g.H.Hub.goes_on
    (record { calls = c.in_ok-close.ensures.calls; led = c.in_ok-close.ensures.leads; calm = refl; goes = refl; answered = refl }) st
    (moves-closed r.origin st.judge.latest st.judge.state c.args.serial st.reached (closing-is-open st.judge.state c.args.serial st.there.1)))

pub returns-clause-passes : goal.returns-clause-passes
returns-clause-passes g c = λ r st.
    close-more g.E.Engine.serves g.H.Hub.state g.H.Hub.leads r c.args.core.now c.closed.new.self c.args.hub.now c.close.new.self c.args.watch.now c.close-2.new.self c.args.serial g.H.Hub.goes_on
    (record { calls = c.in_ok-close.ensures.calls; led = c.in_ok-close.ensures.leads; calm = refl; goes = refl; answered = refl }) st c.close-2.ensures.streams c.close-2.ensures.listens
    (moves-closed r.origin st.judge.latest st.judge.state c.args.serial st.reached (closing-is-open st.judge.state c.args.serial st.there.1))
    (c.in_ok-closed.ensures.serves r.origin st.judge.latest r.front st.judge.state st.reached st.there.1 st.served)

pub returns-clause-same : goal.returns-clause-same
returns-clause-same g c =
    closes-serials c.args.watch.now c.close-2.new.self c.args.serial c.close-2.ensures.streams ∙ ap (filter (λ n. not (n == c.args.serial))) c.requires.same ∙ sym c.in_ok-close.ensures.calls.open_now

pub returns-clause-fewer : goal.returns-clause-fewer
returns-clause-fewer g c =
    let listed : Contains (serials_in c.args.watch.now) c.args.serial = subst (λ (ns : List ℕ). Contains ns c.args.serial) (sym c.requires.same) c.requires.is_open in
    subst (λ (ns : List ℕ). length ns < length (serials_in c.args.watch.now)) (sym (closes-serials c.args.watch.now c.close-2.new.self c.args.serial c.close-2.ensures.streams)) (one-fewer c.args.serial (serials_in c.args.watch.now) listed)
