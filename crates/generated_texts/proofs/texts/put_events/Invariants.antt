use Rattle.std.proofs.Common.{◌≡◌, ◌++◌}
use Rattle.generated_texts.specs.Draws.{state_after}
use Rattle.generated_texts.specs.Events.{draws_before, events}
use Rattle.generated_texts.specs.Holding.{IsDownAfter}
use Rattle.generated_texts.specs.Texts.{event_lines}
use Rattle.generated_texts.proofs.texts.put_events.Given as goal

abbrev pub invariant-loop-index : goal.invariant-loop-index
invariant-loop-index l = record {
  printed : l.out ≡ l.fn.out ++ event_lines l.seed l._index;
  drawn : l.draws.state ≡ state_after l.seed (draws_before l.seed l._index);
  down_is : IsDownAfter l.down (events l.seed l._index);
}
