use Rattle.std.specs.Prelude.{◌≡◌, ℕ, ◌<◌, ◌^◌}
use Rattle.std.proofs.Common.{arith}
use Rattle.client_loop.specs.Stages.{with_front}
use Rattle.client_loop.specs.Turns.{turned, turned_once}
use Rattle.client_loop.proofs.TurnSteps.{ended-on, turns-spent}
use Rattle.client_loop.proofs.turns.take_turns.Goals as goal

pub turn-requires-clause-there : goal.turn-requires-clause-there
turn-requires-clause-there g c =
    let there = c.requires.there in
    let r = there.0 in
    let i : ℕ = c.loop-turn._turn in
    let lt : i < r.turns = (let a = c.loop-turn-test.true in let b = there.2 in omega (arith, a, b)) in
    let few : i < 2 ^ 32 = (let a = c.loop-turn-test.true in let b = c.requires.few in omega (arith, a, b)) in
    let l = c.loop-turn.invariant.turns r there.1 there.2 there.3 in
    (with_front l.front (turned i r), lt, few, l.stage)

pub loop-turn-preserved : goal.loop-turn-preserved
loop-turn-preserved g c = record {
  room = (let a = c.turn.auto.buffer in let b = c.loop-turn.invariant.room in omega (arith, a, b));
  turns = λ r old e l.
      let i : ℕ = c.loop-turn._turn in
      let lt : i < r.turns = (let a = c.loop-turn-test.true in omega (arith, a, e)) in
      c.in-Ok.ensures (turned i r) old lt (c.loop-turn.invariant.turns r old e l);
}

pub returns-in-Err : goal.returns-in-Err
returns-in-Err g c = λ r old e l.
    let i : ℕ = c.loop-turn._turn in
    let lt : i < r.turns = (let a = c.loop-turn-test.true in omega (arith, a, e)) in
    ended-on g.C.Attendant.stands g.L.Link.state g.L.Link.leads (turned_once (turned i r)) c.in-Err.end c.turn.new.core c.turn.new.link r.waits r.reads old (g.K.Sink.state c.turn.new.out)
    (c.in-Err.ensures (turned i r) old lt (c.loop-turn.invariant.turns r old e l))

pub returns : goal.returns
returns g c = λ r old e l.
    let i : ℕ = c.loop-turn._turn in
    let all : i ≡ r.turns = (let a = c.loop-turn-test.false in let b = c.loop-turn.auto._turn-end in omega (arith, a, b, e)) in
    turns-spent g.C.Attendant.stands g.L.Link.state g.L.Link.leads r i c.loop-turn.core c.loop-turn.link c.loop-turn.watch old (g.K.Sink.state c.loop-turn.out) all (c.loop-turn.invariant.turns r old e l)
