use Rattle.std.specs.Prelude.{◌≡◌, length}
use Rattle.share_base.specs.Writing.{SinkState}
use Rattle.attentive_links.specs.Judging.{most_moved}
use Rattle.client_loop.specs.Stages.{Course}
use Rattle.client_loop.specs.Turns.{Logged, turned}
use Rattle.client_loop.proofs.turns.take_turns.Given as goal

abbrev pub invariant-loop-turn : goal.invariant-loop-turn
invariant-loop-turn g l = record {
  room : length l.buffer ≡ most_moved;
  turns : (r : Course g.row.L.Denot) (old : SinkState) → r.turns ≡ l.fn.turns → Logged g.C.Attendant.stands g.L.Link.state g.L.Link.leads (turned 0 r) l.fn.core l.fn.link l.fn.watch old (g.K.Sink.state l.fn.out)
      → Logged g.C.Attendant.stands g.L.Link.state g.L.Link.leads (turned l._turn r) l.core l.link l.watch old (g.K.Sink.state l.out);
}
