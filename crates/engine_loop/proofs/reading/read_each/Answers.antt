use Rattle.std.specs.Prelude.{ℕ, ◌+◌, List, drop, Contains}
use Rattle.std.proofs.Common.{arith, refl, sym, subst, ◌∙◌}
use Rattle.attentive_acts.specs.Places.{at_reads}
use Rattle.engine_loop.specs.Watches.{serials_in}
use Rattle.engine_loop.proofs.MoreActs.{after-err}
use Rattle.engine_loop.proofs.Phases.{in-range, has-serial, phase-begins, phase-at, phase-ends}
use Rattle.engine_loop.proofs.reading.read_each.Goals as goal

pub loop-index-init : goal.loop-index-init
loop-index-init g c = record {
  watched = refl;
  same = c.requires.same;
  room = c.requires.room;
  passes = λ r st. phase-begins g.E.Engine.serves g.H.Hub.state g.H.Hub.leads r c.args.core.now c.args.hub.now c.args.watch.now at_reads st;
}

pub loop-index-preserved : goal.loop-index-preserved
loop-index-preserved g c = record {
  watched = c.in_ok-read_once.ensures.watched ∙ c.loop-index.invariant.watched;
  same = c.in_ok-read_once.ensures.watched ∙ c.loop-index.invariant.same ∙ sym c.in_ok-read_once.ensures.stay;
  room = let k = c.loop-index.invariant.room in let l = c.read_once.auto.buffer in omega (arith, k, l);
  passes = λ r st. c.in_ok-read_once.ensures.passes (drop (c.loop-index.index + 1) (serials_in c.args.watch.now)) r
      (phase-at g.E.Engine.serves g.H.Hub.state g.H.Hub.leads r c.loop-index.core c.loop-index.hub c.loop-index.watch at_reads c.args.watch.now c.loop-index.index c.len-index-end.result c.index.result.now c.loop-index.invariant.watched c.len-index-end.ensures c.loop-index-test.true c.index.ensures (c.loop-index.invariant.passes r st));
}

pub read_once-requires-clause-is_open : goal.read_once-requires-clause-is_open
read_once-requires-clause-is_open g c =
    subst (λ (ns : List ℕ). Contains ns c.index.result.now.serial) c.loop-index.invariant.same
    (has-serial c.loop-index.watch.streams.items c.loop-index.index c.index.result.now
    (in-range c.loop-index.watch.streams.items c.args.watch.now.streams.items c.loop-index.index c.len-index-end.result c.loop-index.invariant.watched c.len-index-end.ensures c.loop-index-test.true) c.index.ensures)

pub returns-clause-passes : goal.returns-clause-passes
returns-clause-passes g c = λ r st.
    phase-ends g.E.Engine.serves g.H.Hub.state g.H.Hub.leads r c.loop-index.core c.loop-index.hub c.loop-index.watch at_reads c.args.watch.now c.loop-index.index c.len-index-end.result c.len-index-end.ensures c.loop-index-test.false (c.loop-index.invariant.passes r st)

pub returns-in_err-read_once-clause-passes : goal.returns-in_err-read_once-clause-passes
returns-in_err-read_once-clause-passes g c = λ r st.
    after-err c.from_residual.result _ c.from_residual.ensures.0 (c.in_err-read_once.ensures.passes (drop (c.loop-index.index + 1) (serials_in c.args.watch.now)) r
    (phase-at g.E.Engine.serves g.H.Hub.state g.H.Hub.leads r c.loop-index.core c.loop-index.hub c.loop-index.watch at_reads c.args.watch.now c.loop-index.index c.len-index-end.result c.index.result.now c.loop-index.invariant.watched c.len-index-end.ensures c.loop-index-test.true c.index.ensures (c.loop-index.invariant.passes r st)))
