use Rattle.std.proofs.Common.{refl}
use Rattle.engine_loop.proofs.Starts.{after_waits, turn-ends}
use Rattle.engine_loop.proofs.turns.take_turns.Goals as goal

pub turn-requires-clause-there : goal.turn-requires-clause-there
turn-requires-clause-there g c =
    let there = c.requires.there in
    (there.0, after_waits c.loop-turn._turn there.1, (refl, refl), c.loop-turn.invariant.goes there.0 there.1 there.2 there.3 there.4)

pub returns-in-Err-clause-turns : goal.returns-in-Err-clause-turns
returns-in-Err-clause-turns g c = λ old r calm none l.
    turn-ends g.E.Engine.serves g.H.Hub.state g.H.Hub.leads r c.loop-turn._turn c.args.turns c.in-Err.end c.turn.new.core c.turn.new.hub c.turn.new.watch old (g.K.Sink.state c.turn.new.out) calm c.loop-turn-test.true
    (c.in-Err.ensures.turns old (after_waits c.loop-turn._turn r) (refl, refl) (c.loop-turn.invariant.goes old r calm none l))
