use Rattle.std.proofs.Common.{sym, append-nil}
use Rattle.generated_texts.specs.Draws.{state_after}
use Rattle.generated_texts.specs.Events.{draws_before, events}
use Rattle.generated_texts.specs.Texts.{event_lines}
use Rattle.generated_texts.proofs.DrawSteps.{event_drawn, state_drawn}
use Rattle.generated_texts.proofs.EventSteps.{lines_more, down_more}
use Rattle.generated_texts.proofs.texts.put_events.Goals as goal

pub loop-index-init : goal.loop-index-init
unfolding event_lines draws_before state_after
loop-index-init c = record {
  printed = sym (append-nil c.args.out.now);
  drawn = c.new-draws.ensures;
  down_is = c.new-down.ensures;
}

pub loop-index-preserved : goal.loop-index-preserved
loop-index-preserved c =
    let seed = c.args.seed in
    let i = c.loop-index._index in
    let so_far = c.loop-index.invariant in
    let is = event_drawn seed i c.loop-index.draws.state c.event-event.result so_far.drawn
    c.event-event.ensures.event in
    record {
      printed = lines_more seed i c.args.out.now c.loop-index.out c.put_event.new.out
          c.event-event.result so_far.printed is
          (c.in_ok-put_event.ensures (events seed i) so_far.down_is);
      drawn = state_drawn seed i c.loop-index.draws.state c.event-event.new.self.state
          c.event-event.result so_far.drawn is c.event-event.ensures.state;
      down_is = down_more seed i c.follow.new.self c.event-event.result is
          (c.follow.ensures (events seed i) so_far.down_is);
    }
