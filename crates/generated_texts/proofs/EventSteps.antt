-- One event more.
use Rattle.std.proofs.Common.{◌≡◌, ℕ, ◌+◌, List, [], ◌∷◌, ◌++◌, ap, sym, subst, ◌∙◌, zero-add}
use Rattle.std.proofs.lemmas.List.FromFn.{map-range_with_len_more}
use Rattle.generated_texts.specs.declared.event.Event.{Event}
use Rattle.generated_texts.specs.declared.down.Down.{Down}
use Rattle.generated_texts.specs.Events.{event_at, events}
use Rattle.generated_texts.specs.Holding.{IsDownAfter}
use Rattle.generated_texts.specs.Lines.{line_after}
use Rattle.generated_texts.specs.Texts.{event_line, event_lines}
use Rattle.generated_texts.proofs.LineSteps.{put_more}

events_more : (seed i : ℕ) (event : Event) → event ≡ event_at seed i
    → events seed i ++ event ∷ [] ≡ events seed (i + 1)
events_more seed i event e =
    ap (λ (v : Event). events seed i ++ v ∷ []) e
    ∙ sym (map-range_with_len_more (event_at seed) 0 i i (zero-add i))

pub lines_more : (seed i : ℕ) (start out new : List ℕ) (event : Event)
    → out ≡ start ++ event_lines seed i → event ≡ event_at seed i
    → new ≡ out ++ line_after (events seed i) event → new ≡ start ++ event_lines seed (i + 1)
unfolding event_lines
lines_more seed i start out new event so_far e more =
    put_more (event_line seed) i start out new so_far
    (more ∙ ap (λ (v : Event). out ++ line_after (events seed i) v) e)

pub down_more : (seed i : ℕ) (down : Down) (event : Event) → event ≡ event_at seed i
    → IsDownAfter down (events seed i ++ event ∷ []) → IsDownAfter down (events seed (i + 1))
down_more seed i down event e h =
    subst (λ (es : List Event). IsDownAfter down es) (events_more seed i event e) h
