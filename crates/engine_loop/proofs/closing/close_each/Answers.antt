use Rattle.std.specs.Prelude.{◌≡◌, ℕ, List, length, Contains, Some}
use Rattle.std.proofs.Common.{arith, ap, sym, subst, ◌∙◌}
use Rattle.std.proofs.lemmas.Grind.{common_steps}
use Rattle.machine.specs.Connections.{serials}
use Rattle.machine.specs.Readings.{closing}
use Rattle.reached_states.proofs.OpenAfter.{closing-is-open}
use Rattle.attentive_acts.specs.Places.{at_closes}
use Rattle.engine_loop.specs.Stages.{Is, IsToClose}
use Rattle.engine_loop.specs.Watches.{serials_in}
use Rattle.engine_loop.proofs.MoreActs.{elsewhere, after-err}
use Rattle.engine_loop.proofs.OpenOnes.{open-listed}
use Rattle.engine_loop.proofs.CloseActs.{turned, none-closing}
use Rattle.engine_loop.proofs.closing.close_each.Goals as goal

pub close_once-requires-clause-is_open : goal.close_once-requires-clause-is_open
close_once-requires-clause-is_open g c =
    let r = c.requires.there.0 in
    let st = c.loop-count.invariant.passes r c.requires.there.1 in
    let is : closing st.judge.state ≡ Some c.in-Some.serial = sym (c.closing.ensures r.origin st.judge.latest r.front st.judge.state st.reached st.served) ∙ c.in-Some.is in
    subst (λ (ns : List ℕ). Contains ns c.in-Some.serial) (sym st.watched ∙ c.loop-count.invariant.same)
    (open-listed c.in-Some.serial st.judge.state.connections (closing-is-open st.judge.state c.in-Some.serial is))

pub loop-count-preserved : goal.loop-count-preserved
loop-count-preserved g c = record {
  same = c.in_ok-close_once-in-Some.ensures.same;
  fewer = let a = c.loop-count.invariant.fewer in let b = c.in_ok-close_once-in-Some.ensures.fewer in omega (arith, a, b);
  passes = λ r st0.
      let st = c.loop-count.invariant.passes r st0 in
      let is : closing st.judge.state ≡ Some c.in-Some.serial = sym (c.closing.ensures r.origin st.judge.latest r.front st.judge.state st.reached st.served) ∙ c.in-Some.is in
      c.in_ok-close_once-in-Some.ensures.passes r (elsewhere g.E.Engine.serves g.H.Hub.state g.H.Hub.leads r c.loop-count.core c.loop-count.hub c.loop-count.watch (Is (λ fs s. at_closes s)) (IsToClose c.in-Some.serial) st (st.there, is));
}

pub returns-in_err-close_once-in-Some-clause-passes : goal.returns-in_err-close_once-in-Some-clause-passes
returns-in_err-close_once-in-Some-clause-passes g c = λ r st0.
    let st = c.loop-count.invariant.passes r st0 in
    let is : closing st.judge.state ≡ Some c.in-Some.serial = sym (c.closing.ensures r.origin st.judge.latest r.front st.judge.state st.reached st.served) ∙ c.in-Some.is in
    after-err c.from_residual.result _ c.from_residual.ensures.0
    (c.in_err-close_once-in-Some.ensures.passes r (elsewhere g.E.Engine.serves g.H.Hub.state g.H.Hub.leads r c.loop-count.core c.loop-count.hub c.loop-count.watch (Is (λ fs s. at_closes s)) (IsToClose c.in-Some.serial) st (st.there, is)))

pub returns-in-None-clause-passes : goal.returns-in-None-clause-passes
returns-in-None-clause-passes g c = λ r st0.
    let st = c.loop-count.invariant.passes r st0 in
    turned g.E.Engine.serves g.H.Hub.state g.H.Hub.leads r c.loop-count.core c.loop-count.hub c.loop-count.watch st
    (sym (c.closing.ensures r.origin st.judge.latest r.front st.judge.state st.reached st.served) ∙ c.in-None.is)

pub returns-clause-passes : goal.returns-clause-passes
returns-clause-passes g c = λ r st0.
    let st = c.loop-count.invariant.passes r st0 in
    let none : length (serials st.judge.state.connections) ≡ 0 = let a = c.loop-count.invariant.fewer in let b = ap length st.watched in let k = c.loop-count-test.false in let l = c.len-count-end.ensures in let m : length (serials_in c.args.watch.now) ≡ length c.args.watch.now.streams.items = grind (arith, common_steps) in omega (arith, a, b, k, l, m) in
    turned g.E.Engine.serves g.H.Hub.state g.H.Hub.leads r c.loop-count.core c.loop-count.hub c.loop-count.watch st (none-closing st.judge.state none)
