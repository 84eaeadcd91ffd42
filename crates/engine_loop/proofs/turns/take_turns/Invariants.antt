use Rattle.std.specs.Prelude.{◌≡◌, false, true, length}
use Rattle.share_base.specs.Writing.{SinkState}
use Rattle.attentive_acts.specs.Judging.{most_moved}
use Rattle.engine_loop.specs.Watches.{serials_in}
use Rattle.engine_loop.specs.Stages.{Course, GoesWell, IsWaiting}
use Rattle.engine_loop.specs.Turns.{Logged}
use Rattle.engine_loop.proofs.turns.take_turns.Given as goal

abbrev pub invariant-loop-turn : goal.invariant-loop-turn
invariant-loop-turn g l = record {
  same : serials_in l.watch ≡ (g.H.Hub.state l.hub).open_now;
  room : length l.buffer ≡ most_moved;
  goes : (old : SinkState) (r : Course g.row.H.Denot) → GoesWell r → r.waits ≡ 0
      → Logged g.E.Engine.serves g.H.Hub.state g.H.Hub.leads r l.fn.core l.fn.hub l.fn.watch old (g.K.Sink.state l.fn.out) IsWaiting
      → Logged g.E.Engine.serves g.H.Hub.state g.H.Hub.leads (record r { waits = l._turn; failed = false; ready = true }) l.core l.hub l.watch old (g.K.Sink.state l.out) IsWaiting;
}
