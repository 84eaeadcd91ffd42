use Rattle.std.specs.Prelude.{◌≡◌, ℕ, ◌<◌, List, length, Ok, Err, false}
use Rattle.std.proofs.Common.{sym, subst, ◌∙◌}
use Rattle.machine.specs.Connections.{serials}
use Rattle.attentive_acts.specs.Places.{Asks, at_accepts, at_reads, at_writes, at_closes, most_accepts}
use Rattle.engine_loop.specs.Watches.{serials_in}
use Rattle.engine_loop.specs.Stages.{Course, Is, IsTurned, IsWaiting}
use Rattle.engine_loop.specs.Turns.{waited_once, with_front}
use Rattle.engine_loop.proofs.WaitActs.{few-wait}
use Rattle.engine_loop.proofs.TurnSteps.{wait-step, phase-step, quit-step, on-step, turn-err, none-goes-on, wait-goes-on}
use Rattle.engine_loop.proofs.turns.turn.Goals as goal

pub wait_once-requires-clause-few : goal.wait_once-requires-clause-few
wait_once-requires-clause-few g c =
    let st = c.requires.there.3.stage in
    subst (λ (ns : List ℕ). length ns < 128) (sym st.watched ∙ c.requires.same) (few-wait c.requires.there.1.origin st.judge.latest st.judge.state st.reached st.there.1)

pub close_each-requires-clause-there : goal.close_each-requires-clause-there
close_each-requires-clause-there g c =
    let old = c.requires.there.0 in
    let r = c.requires.there.1 in
    let calm = c.requires.there.2 in
    let l = c.requires.there.3 in
    let r1 : Course g.row.H.Denot = waited_once false r in
    let l0 = wait-step g.E.Engine.serves g.H.Hub.state g.H.Hub.leads r c.args.core.now c.args.hub.now c.wait_once.new.hub c.args.watch.now c.wait_once.new.watch old (g.K.Sink.state c.args.out.now) (Ok tt) calm l c.in_ok-wait_once.ensures.waits in
    let l1 = phase-step g.E.Engine.serves g.H.Hub.state g.H.Hub.leads r1 c.args.core.now c.ask_moment.new.core c.end_step.new.core c.wait_once.new.hub c.ask_moment.new.hub c.wait_once.new.watch c.ask_moment.new.watch old (g.K.Sink.state c.args.out.now) (g.K.Sink.state c.end_step.new.out) (Is (λ fs s. Asks)) (Is (λ fs s. at_accepts fs s most_accepts)) c.ask_moment.result (Ok tt) l0 c.ask_moment.ensures.passes c.in_ok-end_step.ensures.heeds in
    let l2 = phase-step g.E.Engine.serves g.H.Hub.state g.H.Hub.leads r1 c.end_step.new.core c.accept_each.new.core c.end_step-2.new.core c.ask_moment.new.hub c.accept_each.new.hub c.ask_moment.new.watch c.accept_each.new.watch old (g.K.Sink.state c.end_step.new.out) (g.K.Sink.state c.end_step-2.new.out) (Is (λ fs s. at_accepts fs s most_accepts)) (Is (λ fs s. at_reads fs s (serials s.connections))) c.accept_each.result (Ok tt) l1 c.accept_each.ensures.passes c.in_ok-end_step-2.ensures.heeds in
    let l3 = phase-step g.E.Engine.serves g.H.Hub.state g.H.Hub.leads r1 c.end_step-2.new.core c.read_each.new.core c.end_step-3.new.core c.accept_each.new.hub c.read_each.new.hub c.accept_each.new.watch c.read_each.new.watch old (g.K.Sink.state c.end_step-2.new.out) (g.K.Sink.state c.end_step-3.new.out) (Is (λ fs s. at_reads fs s (serials s.connections))) (Is (λ fs s. at_writes fs s (serials s.connections))) c.read_each.result (Ok tt) l2 c.read_each.ensures.passes c.in_ok-end_step-3.ensures.heeds in
    let l4 = phase-step g.E.Engine.serves g.H.Hub.state g.H.Hub.leads r1 c.end_step-3.new.core c.write_each.new.core c.end_step-4.new.core c.read_each.new.hub c.write_each.new.hub c.read_each.new.watch c.write_each.new.watch old (g.K.Sink.state c.end_step-3.new.out) (g.K.Sink.state c.end_step-4.new.out) (Is (λ fs s. at_writes fs s (serials s.connections))) (Is (λ fs s. at_closes s)) c.write_each.result (Ok tt) l3 c.write_each.ensures.passes c.in_ok-end_step-4.ensures.heeds in
    (with_front l4.front r1, l4.stage)

pub returns-in_err-wait_once-clause-turns : goal.returns-in_err-wait_once-clause-turns
returns-in_err-wait_once-clause-turns g c = λ old r calm l.
    turn-err g.E.Engine.serves g.H.Hub.state g.H.Hub.leads (waited_once false r) c.in_err-wait_once.field-0.0 c.from_residual.result c.args.core.now c.wait_once.new.hub c.wait_once.new.watch old (g.K.Sink.state c.args.out.now) (Is (λ fs s. Asks)) IsWaiting c.from_residual.ensures.1
    (wait-step g.E.Engine.serves g.H.Hub.state g.H.Hub.leads r c.args.core.now c.args.hub.now c.wait_once.new.hub c.args.watch.now c.wait_once.new.watch old (g.K.Sink.state c.args.out.now) (Err c.in_err-wait_once.field-0.0) calm l c.in_err-wait_once.ensures.waits)

pub returns-in_err-end_step-clause-turns : goal.returns-in_err-end_step-clause-turns
returns-in_err-end_step-clause-turns g c = λ old r calm l.
    let r1 : Course g.row.H.Denot = waited_once false r in
    let l0 = wait-step g.E.Engine.serves g.H.Hub.state g.H.Hub.leads r c.args.core.now c.args.hub.now c.wait_once.new.hub c.args.watch.now c.wait_once.new.watch old (g.K.Sink.state c.args.out.now) (Ok tt) calm l c.in_ok-wait_once.ensures.waits in
    turn-err g.E.Engine.serves g.H.Hub.state g.H.Hub.leads r1 c.in_err-end_step.field-0.0 c.from_residual-in_err-end_step.result c.end_step.new.core c.ask_moment.new.hub c.ask_moment.new.watch old (g.K.Sink.state c.end_step.new.out) (Is (λ fs s. at_accepts fs s most_accepts)) IsWaiting c.from_residual-in_err-end_step.ensures.1
    (phase-step g.E.Engine.serves g.H.Hub.state g.H.Hub.leads r1 c.args.core.now c.ask_moment.new.core c.end_step.new.core c.wait_once.new.hub c.ask_moment.new.hub c.wait_once.new.watch c.ask_moment.new.watch old (g.K.Sink.state c.args.out.now) (g.K.Sink.state c.end_step.new.out) (Is (λ fs s. Asks)) (Is (λ fs s. at_accepts fs s most_accepts)) c.ask_moment.result (Err c.in_err-end_step.field-0.0) l0 c.ask_moment.ensures.passes c.in_err-end_step.ensures.heeds)

pub returns-in_err-end_step-2-clause-turns : goal.returns-in_err-end_step-2-clause-turns
returns-in_err-end_step-2-clause-turns g c = λ old r calm l.
    let r1 : Course g.row.H.Denot = waited_once false r in
    let l0 = wait-step g.E.Engine.serves g.H.Hub.state g.H.Hub.leads r c.args.core.now c.args.hub.now c.wait_once.new.hub c.args.watch.now c.wait_once.new.watch old (g.K.Sink.state c.args.out.now) (Ok tt) calm l c.in_ok-wait_once.ensures.waits in
    let l1 = phase-step g.E.Engine.serves g.H.Hub.state g.H.Hub.leads r1 c.args.core.now c.ask_moment.new.core c.end_step.new.core c.wait_once.new.hub c.ask_moment.new.hub c.wait_once.new.watch c.ask_moment.new.watch old (g.K.Sink.state c.args.out.now) (g.K.Sink.state c.end_step.new.out) (Is (λ fs s. Asks)) (Is (λ fs s. at_accepts fs s most_accepts)) c.ask_moment.result (Ok tt) l0 c.ask_moment.ensures.passes c.in_ok-end_step.ensures.heeds in
    turn-err g.E.Engine.serves g.H.Hub.state g.H.Hub.leads r1 c.in_err-end_step-2.field-0.0 c.from_residual-in_err-end_step-2.result c.end_step-2.new.core c.accept_each.new.hub c.accept_each.new.watch old (g.K.Sink.state c.end_step-2.new.out) (Is (λ fs s. at_reads fs s (serials s.connections))) IsWaiting c.from_residual-in_err-end_step-2.ensures.1
    (phase-step g.E.Engine.serves g.H.Hub.state g.H.Hub.leads r1 c.end_step.new.core c.accept_each.new.core c.end_step-2.new.core c.ask_moment.new.hub c.accept_each.new.hub c.ask_moment.new.watch c.accept_each.new.watch old (g.K.Sink.state c.end_step.new.out) (g.K.Sink.state c.end_step-2.new.out) (Is (λ fs s. at_accepts fs s most_accepts)) (Is (λ fs s. at_reads fs s (serials s.connections))) c.accept_each.result (Err c.in_err-end_step-2.field-0.0) l1 c.accept_each.ensures.passes c.in_err-end_step-2.ensures.heeds)

pub returns-in_err-end_step-3-clause-turns : goal.returns-in_err-end_step-3-clause-turns
returns-in_err-end_step-3-clause-turns g c = λ old r calm l.
    let r1 : Course g.row.H.Denot = waited_once false r in
    let l0 = wait-step g.E.Engine.serves g.H.Hub.state g.H.Hub.leads r c.args.core.now c.args.hub.now c.wait_once.new.hub c.args.watch.now c.wait_once.new.watch old (g.K.Sink.state c.args.out.now) (Ok tt) calm l c.in_ok-wait_once.ensures.waits in
    let l1 = phase-step g.E.Engine.serves g.H.Hub.state g.H.Hub.leads r1 c.args.core.now c.ask_moment.new.core c.end_step.new.core c.wait_once.new.hub c.ask_moment.new.hub c.wait_once.new.watch c.ask_moment.new.watch old (g.K.Sink.state c.args.out.now) (g.K.Sink.state c.end_step.new.out) (Is (λ fs s. Asks)) (Is (λ fs s. at_accepts fs s most_accepts)) c.ask_moment.result (Ok tt) l0 c.ask_moment.ensures.passes c.in_ok-end_step.ensures.heeds in
    let l2 = phase-step g.E.Engine.serves g.H.Hub.state g.H.Hub.leads r1 c.end_step.new.core c.accept_each.new.core c.end_step-2.new.core c.ask_moment.new.hub c.accept_each.new.hub c.ask_moment.new.watch c.accept_each.new.watch old (g.K.Sink.state c.end_step.new.out) (g.K.Sink.state c.end_step-2.new.out) (Is (λ fs s. at_accepts fs s most_accepts)) (Is (λ fs s. at_reads fs s (serials s.connections))) c.accept_each.result (Ok tt) l1 c.accept_each.ensures.passes c.in_ok-end_step-2.ensures.heeds in
    turn-err g.E.Engine.serves g.H.Hub.state g.H.Hub.leads r1 c.in_err-end_step-3.field-0.0 c.from_residual-in_err-end_step-3.result c.end_step-3.new.core c.read_each.new.hub c.read_each.new.watch old (g.K.Sink.state c.end_step-3.new.out) (Is (λ fs s. at_writes fs s (serials s.connections))) IsWaiting c.from_residual-in_err-end_step-3.ensures.1
    (phase-step g.E.Engine.serves g.H.Hub.state g.H.Hub.leads r1 c.end_step-2.new.core c.read_each.new.core c.end_step-3.new.core c.accept_each.new.hub c.read_each.new.hub c.accept_each.new.watch c.read_each.new.watch old (g.K.Sink.state c.end_step-2.new.out) (g.K.Sink.state c.end_step-3.new.out) (Is (λ fs s. at_reads fs s (serials s.connections))) (Is (λ fs s. at_writes fs s (serials s.connections))) c.read_each.result (Err c.in_err-end_step-3.field-0.0) l2 c.read_each.ensures.passes c.in_err-end_step-3.ensures.heeds)

pub returns-in_err-end_step-4-clause-turns : goal.returns-in_err-end_step-4-clause-turns
returns-in_err-end_step-4-clause-turns g c = λ old r calm l.
    let r1 : Course g.row.H.Denot = waited_once false r in
    let l0 = wait-step g.E.Engine.serves g.H.Hub.state g.H.Hub.leads r c.args.core.now c.args.hub.now c.wait_once.new.hub c.args.watch.now c.wait_once.new.watch old (g.K.Sink.state c.args.out.now) (Ok tt) calm l c.in_ok-wait_once.ensures.waits in
    let l1 = phase-step g.E.Engine.serves g.H.Hub.state g.H.Hub.leads r1 c.args.core.now c.ask_moment.new.core c.end_step.new.core c.wait_once.new.hub c.ask_moment.new.hub c.wait_once.new.watch c.ask_moment.new.watch old (g.K.Sink.state c.args.out.now) (g.K.Sink.state c.end_step.new.out) (Is (λ fs s. Asks)) (Is (λ fs s. at_accepts fs s most_accepts)) c.ask_moment.result (Ok tt) l0 c.ask_moment.ensures.passes c.in_ok-end_step.ensures.heeds in
    let l2 = phase-step g.E.Engine.serves g.H.Hub.state g.H.Hub.leads r1 c.end_step.new.core c.accept_each.new.core c.end_step-2.new.core c.ask_moment.new.hub c.accept_each.new.hub c.ask_moment.new.watch c.accept_each.new.watch old (g.K.Sink.state c.end_step.new.out) (g.K.Sink.state c.end_step-2.new.out) (Is (λ fs s. at_accepts fs s most_accepts)) (Is (λ fs s. at_reads fs s (serials s.connections))) c.accept_each.result (Ok tt) l1 c.accept_each.ensures.passes c.in_ok-end_step-2.ensures.heeds in
    let l3 = phase-step g.E.Engine.serves g.H.Hub.state g.H.Hub.leads r1 c.end_step-2.new.core c.read_each.new.core c.end_step-3.new.core c.accept_each.new.hub c.read_each.new.hub c.accept_each.new.watch c.read_each.new.watch old (g.K.Sink.state c.end_step-2.new.out) (g.K.Sink.state c.end_step-3.new.out) (Is (λ fs s. at_reads fs s (serials s.connections))) (Is (λ fs s. at_writes fs s (serials s.connections))) c.read_each.result (Ok tt) l2 c.read_each.ensures.passes c.in_ok-end_step-3.ensures.heeds in
    turn-err g.E.Engine.serves g.H.Hub.state g.H.Hub.leads r1 c.in_err-end_step-4.field-0.0 c.from_residual-in_err-end_step-4.result c.end_step-4.new.core c.write_each.new.hub c.write_each.new.watch old (g.K.Sink.state c.end_step-4.new.out) (Is (λ fs s. at_closes s)) IsWaiting c.from_residual-in_err-end_step-4.ensures.1
    (phase-step g.E.Engine.serves g.H.Hub.state g.H.Hub.leads r1 c.end_step-3.new.core c.write_each.new.core c.end_step-4.new.core c.read_each.new.hub c.write_each.new.hub c.read_each.new.watch c.write_each.new.watch old (g.K.Sink.state c.end_step-3.new.out) (g.K.Sink.state c.end_step-4.new.out) (Is (λ fs s. at_writes fs s (serials s.connections))) (Is (λ fs s. at_closes s)) c.write_each.result (Err c.in_err-end_step-4.field-0.0) l3 c.write_each.ensures.passes c.in_err-end_step-4.ensures.heeds)

pub returns-in_err-end_step-5-clause-turns : goal.returns-in_err-end_step-5-clause-turns
returns-in_err-end_step-5-clause-turns g c = λ old r calm l.
    let r1 : Course g.row.H.Denot = waited_once false r in
    let l0 = wait-step g.E.Engine.serves g.H.Hub.state g.H.Hub.leads r c.args.core.now c.args.hub.now c.wait_once.new.hub c.args.watch.now c.wait_once.new.watch old (g.K.Sink.state c.args.out.now) (Ok tt) calm l c.in_ok-wait_once.ensures.waits in
    let l1 = phase-step g.E.Engine.serves g.H.Hub.state g.H.Hub.leads r1 c.args.core.now c.ask_moment.new.core c.end_step.new.core c.wait_once.new.hub c.ask_moment.new.hub c.wait_once.new.watch c.ask_moment.new.watch old (g.K.Sink.state c.args.out.now) (g.K.Sink.state c.end_step.new.out) (Is (λ fs s. Asks)) (Is (λ fs s. at_accepts fs s most_accepts)) c.ask_moment.result (Ok tt) l0 c.ask_moment.ensures.passes c.in_ok-end_step.ensures.heeds in
    let l2 = phase-step g.E.Engine.serves g.H.Hub.state g.H.Hub.leads r1 c.end_step.new.core c.accept_each.new.core c.end_step-2.new.core c.ask_moment.new.hub c.accept_each.new.hub c.ask_moment.new.watch c.accept_each.new.watch old (g.K.Sink.state c.end_step.new.out) (g.K.Sink.state c.end_step-2.new.out) (Is (λ fs s. at_accepts fs s most_accepts)) (Is (λ fs s. at_reads fs s (serials s.connections))) c.accept_each.result (Ok tt) l1 c.accept_each.ensures.passes c.in_ok-end_step-2.ensures.heeds in
    let l3 = phase-step g.E.Engine.serves g.H.Hub.state g.H.Hub.leads r1 c.end_step-2.new.core c.read_each.new.core c.end_step-3.new.core c.accept_each.new.hub c.read_each.new.hub c.accept_each.new.watch c.read_each.new.watch old (g.K.Sink.state c.end_step-2.new.out) (g.K.Sink.state c.end_step-3.new.out) (Is (λ fs s. at_reads fs s (serials s.connections))) (Is (λ fs s. at_writes fs s (serials s.connections))) c.read_each.result (Ok tt) l2 c.read_each.ensures.passes c.in_ok-end_step-3.ensures.heeds in
    let l4 = phase-step g.E.Engine.serves g.H.Hub.state g.H.Hub.leads r1 c.end_step-3.new.core c.write_each.new.core c.end_step-4.new.core c.read_each.new.hub c.write_each.new.hub c.read_each.new.watch c.write_each.new.watch old (g.K.Sink.state c.end_step-3.new.out) (g.K.Sink.state c.end_step-4.new.out) (Is (λ fs s. at_writes fs s (serials s.connections))) (Is (λ fs s. at_closes s)) c.write_each.result (Ok tt) l3 c.write_each.ensures.passes c.in_ok-end_step-4.ensures.heeds in
    turn-err g.E.Engine.serves g.H.Hub.state g.H.Hub.leads r1 c.in_err-end_step-5.field-0.0 c.from_residual-in_err-end_step-5.result c.end_step-5.new.core c.close_each.new.hub c.close_each.new.watch old (g.K.Sink.state c.end_step-5.new.out) IsTurned IsWaiting c.from_residual-in_err-end_step-5.ensures.1
    (phase-step g.E.Engine.serves g.H.Hub.state g.H.Hub.leads r1 c.end_step-4.new.core c.close_each.new.core c.end_step-5.new.core c.write_each.new.hub c.close_each.new.hub c.write_each.new.watch c.close_each.new.watch old (g.K.Sink.state c.end_step-4.new.out) (g.K.Sink.state c.end_step-5.new.out) (Is (λ fs s. at_closes s)) IsTurned c.close_each.result (Err c.in_err-end_step-5.field-0.0) l4 c.close_each.ensures.passes c.in_err-end_step-5.ensures.heeds)

pub returns-then-over-clause-turns : goal.returns-then-over-clause-turns
returns-then-over-clause-turns g c = λ old r calm l.
    let r1 : Course g.row.H.Denot = waited_once false r in
    let l0 = wait-step g.E.Engine.serves g.H.Hub.state g.H.Hub.leads r c.args.core.now c.args.hub.now c.wait_once.new.hub c.args.watch.now c.wait_once.new.watch old (g.K.Sink.state c.args.out.now) (Ok tt) calm l c.in_ok-wait_once.ensures.waits in
    let l1 = phase-step g.E.Engine.serves g.H.Hub.state g.H.Hub.leads r1 c.args.core.now c.ask_moment.new.core c.end_step.new.core c.wait_once.new.hub c.ask_moment.new.hub c.wait_once.new.watch c.ask_moment.new.watch old (g.K.Sink.state c.args.out.now) (g.K.Sink.state c.end_step.new.out) (Is (λ fs s. Asks)) (Is (λ fs s. at_accepts fs s most_accepts)) c.ask_moment.result (Ok tt) l0 c.ask_moment.ensures.passes c.in_ok-end_step.ensures.heeds in
    let l2 = phase-step g.E.Engine.serves g.H.Hub.state g.H.Hub.leads r1 c.end_step.new.core c.accept_each.new.core c.end_step-2.new.core c.ask_moment.new.hub c.accept_each.new.hub c.ask_moment.new.watch c.accept_each.new.watch old (g.K.Sink.state c.end_step.new.out) (g.K.Sink.state c.end_step-2.new.out) (Is (λ fs s. at_accepts fs s most_accepts)) (Is (λ fs s. at_reads fs s (serials s.connections))) c.accept_each.result (Ok tt) l1 c.accept_each.ensures.passes c.in_ok-end_step-2.ensures.heeds in
    let l3 = phase-step g.E.Engine.serves g.H.Hub.state g.H.Hub.leads r1 c.end_step-2.new.core c.read_each.new.core c.end_step-3.new.core c.accept_each.new.hub c.read_each.new.hub c.accept_each.new.watch c.read_each.new.watch old (g.K.Sink.state c.end_step-2.new.out) (g.K.Sink.state c.end_step-3.new.out) (Is (λ fs s. at_reads fs s (serials s.connections))) (Is (λ fs s. at_writes fs s (serials s.connections))) c.read_each.result (Ok tt) l2 c.read_each.ensures.passes c.in_ok-end_step-3.ensures.heeds in
    let l4 = phase-step g.E.Engine.serves g.H.Hub.state g.H.Hub.leads r1 c.end_step-3.new.core c.write_each.new.core c.end_step-4.new.core c.read_each.new.hub c.write_each.new.hub c.read_each.new.watch c.write_each.new.watch old (g.K.Sink.state c.end_step-3.new.out) (g.K.Sink.state c.end_step-4.new.out) (Is (λ fs s. at_writes fs s (serials s.connections))) (Is (λ fs s. at_closes s)) c.write_each.result (Ok tt) l3 c.write_each.ensures.passes c.in_ok-end_step-4.ensures.heeds in
    let l5 = phase-step g.E.Engine.serves g.H.Hub.state g.H.Hub.leads r1 c.end_step-4.new.core c.close_each.new.core c.end_step-5.new.core c.write_each.new.hub c.close_each.new.hub c.write_each.new.watch c.close_each.new.watch old (g.K.Sink.state c.end_step-4.new.out) (g.K.Sink.state c.end_step-5.new.out) (Is (λ fs s. at_closes s)) IsTurned c.close_each.result (Ok tt) l4 c.close_each.ensures.passes c.in_ok-end_step-5.ensures.heeds in
    quit-step g.E.Engine.serves g.H.Hub.state g.H.Hub.leads r1 c.end_step-5.new.core c.close_each.new.hub c.close_each.new.watch old (g.K.Sink.state c.end_step-5.new.out) c.over.result c.if-over.true c.over.ensures l5

pub returns-clause-turns : goal.returns-clause-turns
returns-clause-turns g c = λ old r calm l.
    let r1 : Course g.row.H.Denot = waited_once false r in
    let l0 = wait-step g.E.Engine.serves g.H.Hub.state g.H.Hub.leads r c.args.core.now c.args.hub.now c.wait_once.new.hub c.args.watch.now c.wait_once.new.watch old (g.K.Sink.state c.args.out.now) (Ok tt) calm l c.in_ok-wait_once.ensures.waits in
    let l1 = phase-step g.E.Engine.serves g.H.Hub.state g.H.Hub.leads r1 c.args.core.now c.ask_moment.new.core c.end_step.new.core c.wait_once.new.hub c.ask_moment.new.hub c.wait_once.new.watch c.ask_moment.new.watch old (g.K.Sink.state c.args.out.now) (g.K.Sink.state c.end_step.new.out) (Is (λ fs s. Asks)) (Is (λ fs s. at_accepts fs s most_accepts)) c.ask_moment.result (Ok tt) l0 c.ask_moment.ensures.passes c.in_ok-end_step.ensures.heeds in
    let l2 = phase-step g.E.Engine.serves g.H.Hub.state g.H.Hub.leads r1 c.end_step.new.core c.accept_each.new.core c.end_step-2.new.core c.ask_moment.new.hub c.accept_each.new.hub c.ask_moment.new.watch c.accept_each.new.watch old (g.K.Sink.state c.end_step.new.out) (g.K.Sink.state c.end_step-2.new.out) (Is (λ fs s. at_accepts fs s most_accepts)) (Is (λ fs s. at_reads fs s (serials s.connections))) c.accept_each.result (Ok tt) l1 c.accept_each.ensures.passes c.in_ok-end_step-2.ensures.heeds in
    let l3 = phase-step g.E.Engine.serves g.H.Hub.state g.H.Hub.leads r1 c.end_step-2.new.core c.read_each.new.core c.end_step-3.new.core c.accept_each.new.hub c.read_each.new.hub c.accept_each.new.watch c.read_each.new.watch old (g.K.Sink.state c.end_step-2.new.out) (g.K.Sink.state c.end_step-3.new.out) (Is (λ fs s. at_reads fs s (serials s.connections))) (Is (λ fs s. at_writes fs s (serials s.connections))) c.read_each.result (Ok tt) l2 c.read_each.ensures.passes c.in_ok-end_step-3.ensures.heeds in
    let l4 = phase-step g.E.Engine.serves g.H.Hub.state g.H.Hub.leads r1 c.end_step-3.new.core c.write_each.new.core c.end_step-4.new.core c.read_each.new.hub c.write_each.new.hub c.read_each.new.watch c.write_each.new.watch old (g.K.Sink.state c.end_step-3.new.out) (g.K.Sink.state c.end_step-4.new.out) (Is (λ fs s. at_writes fs s (serials s.connections))) (Is (λ fs s. at_closes s)) c.write_each.result (Ok tt) l3 c.write_each.ensures.passes c.in_ok-end_step-4.ensures.heeds in
    let l5 = phase-step g.E.Engine.serves g.H.Hub.state g.H.Hub.leads r1 c.end_step-4.new.core c.close_each.new.core c.end_step-5.new.core c.write_each.new.hub c.close_each.new.hub c.write_each.new.watch c.close_each.new.watch old (g.K.Sink.state c.end_step-4.new.out) (g.K.Sink.state c.end_step-5.new.out) (Is (λ fs s. at_closes s)) IsTurned c.close_each.result (Ok tt) l4 c.close_each.ensures.passes c.in_ok-end_step-5.ensures.heeds in
    on-step g.E.Engine.serves g.H.Hub.state g.H.Hub.leads r1 c.end_step-5.new.core c.close_each.new.hub c.close_each.new.watch old (g.K.Sink.state c.end_step-5.new.out) c.over.result c.if-over.false c.over.ensures l5

pub returns-in_err-wait_once-clause-same : goal.returns-in_err-wait_once-clause-same
returns-in_err-wait_once-clause-same g c = wait-goes-on c.in_err-wait_once.field-0.0 c.from_residual.result (serials_in c.wait_once.new.watch ≡ (g.H.Hub.state c.wait_once.new.hub).open_now) c.from_residual.ensures.1 c.wait_once.ensures.same

pub returns-in_err-end_step-clause-same : goal.returns-in_err-end_step-clause-same
returns-in_err-end_step-clause-same g c = none-goes-on c.in_err-end_step.field-0.0 c.from_residual-in_err-end_step.result (serials_in c.ask_moment.new.watch ≡ (g.H.Hub.state c.ask_moment.new.hub).open_now) c.from_residual-in_err-end_step.ensures.1 c.in_err-end_step.ensures.fault

pub returns-in_err-end_step-2-clause-same : goal.returns-in_err-end_step-2-clause-same
returns-in_err-end_step-2-clause-same g c = none-goes-on c.in_err-end_step-2.field-0.0 c.from_residual-in_err-end_step-2.result (serials_in c.accept_each.new.watch ≡ (g.H.Hub.state c.accept_each.new.hub).open_now) c.from_residual-in_err-end_step-2.ensures.1 c.in_err-end_step-2.ensures.fault

pub returns-in_err-end_step-3-clause-same : goal.returns-in_err-end_step-3-clause-same
returns-in_err-end_step-3-clause-same g c = none-goes-on c.in_err-end_step-3.field-0.0 c.from_residual-in_err-end_step-3.result (serials_in c.read_each.new.watch ≡ (g.H.Hub.state c.read_each.new.hub).open_now) c.from_residual-in_err-end_step-3.ensures.1 c.in_err-end_step-3.ensures.fault

pub returns-in_err-end_step-4-clause-same : goal.returns-in_err-end_step-4-clause-same
returns-in_err-end_step-4-clause-same g c = none-goes-on c.in_err-end_step-4.field-0.0 c.from_residual-in_err-end_step-4.result (serials_in c.write_each.new.watch ≡ (g.H.Hub.state c.write_each.new.hub).open_now) c.from_residual-in_err-end_step-4.ensures.1 c.in_err-end_step-4.ensures.fault

pub returns-in_err-end_step-5-clause-same : goal.returns-in_err-end_step-5-clause-same
returns-in_err-end_step-5-clause-same g c = none-goes-on c.in_err-end_step-5.field-0.0 c.from_residual-in_err-end_step-5.result (serials_in c.close_each.new.watch ≡ (g.H.Hub.state c.close_each.new.hub).open_now) c.from_residual-in_err-end_step-5.ensures.1 c.in_err-end_step-5.ensures.fault
