use Rattle.std.specs.Prelude.{◌≡◌, ℕ, ◌+◌, ◌≤◌, List, [], drop, length}
use Rattle.std.proofs.Common.{refl, sym, subst, ◌∙◌}
use Rattle.reached_states.specs.OpenSerials.{Rise}
use Rattle.engine_loop.specs.declared.watch.Stream.{Stream}
use Rattle.engine_loop.specs.Watches.{serials_in}
use Rattle.engine_loop.specs.Ends.{Departing}
use Rattle.engine_loop.proofs.MoreActs.{after-err}
use Rattle.engine_loop.proofs.Phases.{serials-from, none-left}
use Rattle.engine_loop.proofs.LeaveActs.{rise-drop}
use Rattle.engine_loop.proofs.leaving.leave_each.Goals as goal

pub loop-stream-init : goal.loop-stream-init
loop-stream-init g c = record { open_now = sym c.requires.same; leaves = λ r end turns d. d }

pub leave_once-requires : goal.leave_once-requires
leave_once-requires g c =
    let all : List ℕ = serials_in c.args.watch.now in
    let i : ℕ = c.loop-stream.stream-index in
    let cons = serials-from c.deref-stream-items.result.now c.args.watch.now.streams.items i c.deref-stream-items.ensures.value c.loop-stream-test.true in
    let rises = rise-drop all 0 i c.requires.rise in
    record { first = (drop (i + 1) all, rises.0, c.loop-stream.invariant.open_now ∙ cons, subst (Rise rises.0) cons rises.1) }

pub loop-stream-preserved : goal.loop-stream-preserved
loop-stream-preserved g c =
    let all : List ℕ = serials_in c.args.watch.now in
    let i : ℕ = c.loop-stream.stream-index in
    let cons = serials-from c.deref-stream-items.result.now c.args.watch.now.streams.items i c.deref-stream-items.ensures.value c.loop-stream-test.true in
    let rises = rise-drop all 0 i c.requires.rise in
    record {
      open_now = c.in_ok-leave_once.ensures.rest (drop (i + 1) all) rises.0 (c.loop-stream.invariant.open_now ∙ cons) (subst (Rise rises.0) cons rises.1);
      leaves = λ r end turns d. c.in_ok-leave_once.ensures.leaves r end turns (drop (i + 1) all)
          (subst (Departing g.E.Engine.departs g.H.Hub.state g.H.Hub.leads r end turns c.loop-stream.core c.loop-stream.hub) cons (c.loop-stream.invariant.leaves r end turns d));
    }

pub returns-in_err-leave_once : goal.returns-in_err-leave_once
returns-in_err-leave_once g c = record {
  leaves = λ r end turns d.
      let all : List ℕ = serials_in c.args.watch.now in
      let i : ℕ = c.loop-stream.stream-index in
      let cons = serials-from c.deref-stream-items.result.now c.args.watch.now.streams.items i c.deref-stream-items.ensures.value c.loop-stream-test.true in
      after-err c.from_residual.result _ c.from_residual.ensures.0
      (c.in_err-leave_once.ensures.leaves r end turns (drop (i + 1) all) (subst (Departing g.E.Engine.departs g.H.Hub.state g.H.Hub.leads r end turns c.loop-stream.core c.loop-stream.hub) cons (c.loop-stream.invariant.leaves r end turns d)));
}

pub returns : goal.returns
returns g c = record {
  leaves = λ r end turns d.
      let all : List ℕ = serials_in c.args.watch.now in
      let i : ℕ = c.loop-stream.stream-index in
      let past : length c.args.watch.now.streams.items ≤ i = subst (λ (xs : List Stream). length xs ≤ i) c.deref-stream-items.ensures.value c.loop-stream-test.false in
      let none : drop i all ≡ [] = none-left all c.args.watch.now.streams.items i (length c.args.watch.now.streams.items) refl refl past in
      subst (Departing g.E.Engine.departs g.H.Hub.state g.H.Hub.leads r end turns c.loop-stream.core c.loop-stream.hub) none (c.loop-stream.invariant.leaves r end turns d);
}
