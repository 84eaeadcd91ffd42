use Rattle.std.specs.Prelude.{◌≡◌, ℕ, ◌+◌, ◌-◌, ◌<◌}
use Rattle.std.proofs.Common.{arith, ap, ◌∙◌}
use Rattle.machine.specs.Connections.{serials}
use Rattle.attentive_acts.specs.Places.{at_accepts, at_reads, most_accepts}
use Rattle.engine_loop.specs.Stages.{Is}
use Rattle.engine_loop.proofs.MoreActs.{elsewhere, after-err}
use Rattle.engine_loop.proofs.AcceptActs.{none-left}
use Rattle.engine_loop.proofs.accepting.accept_each.Goals as goal

pub loop-count-preserved : goal.loop-count-preserved
loop-count-preserved g c = record {
  same = c.in_ok-accept_once.ensures.same;
  passes = λ r st.
      let left : ℕ = most_accepts - c.loop-count._count in
      let next : left - 1 ≡ most_accepts - (c.loop-count._count + 1) = omega arith in
      let some : 0 < left = let lt = c.loop-count-test.true in omega (arith, lt) in
      let st1 = c.in_ok-accept_once.ensures.passes left some r (c.loop-count.invariant.passes r st) in
      elsewhere g.E.Engine.serves g.H.Hub.state g.H.Hub.leads r c.accept_once.new.core c.accept_once.new.hub c.accept_once.new.watch (Is (λ fs s. at_accepts fs s (left - 1))) (Is (λ fs s. at_accepts fs s (most_accepts - (c.loop-count._count + 1)))) st1
      (st1.there ∙ ap (at_accepts st1.judge.flags st1.judge.state) next);
}

pub returns-clause-passes : goal.returns-clause-passes
returns-clause-passes g c = λ r st.
    let st1 = c.loop-count.invariant.passes r st in
    let none : most_accepts - c.loop-count._count ≡ 0 = let ge = c.loop-count-test.false in omega (arith, ge) in
    elsewhere g.E.Engine.serves g.H.Hub.state g.H.Hub.leads r c.loop-count.core c.loop-count.hub c.loop-count.watch (Is (λ fs s. at_accepts fs s (most_accepts - c.loop-count._count))) (Is (λ fs s. at_reads fs s (serials s.connections))) st1
    (st1.there ∙ ap (at_accepts st1.judge.flags st1.judge.state) none ∙ none-left st1.judge.flags st1.judge.state)

pub returns-in_err-accept_once-clause-passes : goal.returns-in_err-accept_once-clause-passes
returns-in_err-accept_once-clause-passes g c = λ r st.
    let left : ℕ = most_accepts - c.loop-count._count in
    let some : 0 < left = let lt = c.loop-count-test.true in omega (arith, lt) in
    after-err c.from_residual.result _ c.from_residual.ensures.0 (c.in_err-accept_once.ensures.passes left some r (c.loop-count.invariant.passes r st))
