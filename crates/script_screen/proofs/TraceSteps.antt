-- A trace, and one line more.
use Rattle.std.proofs.Common.{◌≡◌, List, [], ◌∷◌, ◌++◌, ap, sym, ◌∙◌, append_assoc}
use Rattle.std.specs.Prelude.{None}
use Rattle.std.proofs.lemmas.List.{append-nil}
use Rattle.script_screen.specs.declared.forms.TraceForm.{TraceForm}
use Rattle.script_screen.specs.declared.forms.TraceForm.TheVariants as form
use Rattle.script_screen.specs.declared.trace.TraceLine.{TraceLine}
use Rattle.script_screen.specs.declared.trace.TraceLine.TheVariants as line
use Rattle.script_screen.specs.declared.track.Track.{Track}
use Rattle.script_screen.specs.Texts.{before_turn}
use Rattle.script_screen.specs.Traces.{IsTraceLine, AreTraceLines, BeginsWithTurn, trace_fault}
use Rattle.script_screen.specs.Tracking.{IsTrackAfter, IsTracedBy, MakesTurn}

-- a line without a fault goes on with them
pub fit_more : (above ls : List TraceLine) (l : TraceLine) → AreTraceLines above ls → IsTraceLine l
    → trace_fault (above ++ ls) l ≡ None → AreTraceLines above (ls ++ l ∷ [])
fit_more above [] l h s f =
    (s, ap (λ (xs : List TraceLine). trace_fault xs l) (sym (append-nil above)) ∙ f, tt)
fit_more above (x ∷ ls) l h s f = (
  h.0,
  h.1,
  fit_more (above ++ x ∷ []) ls l h.2 s
      (ap (λ (xs : List TraceLine). trace_fault xs l) (append_assoc above (x ∷ []) ls) ∙ f),
)

pub traced_more : (old new : Track) (lines : List TraceLine) (l : TraceLine) → IsTracedBy old lines
    → IsTraceLine l → trace_fault lines l ≡ None → BeginsWithTurn (lines ++ l ∷ [])
    → IsTrackAfter new (lines ++ l ∷ [])
    → IsTracedBy new (lines ++ l ∷ [])
traced_more old new lines l h s f b t =
    record { track_is = t; lines_fit = fit_more [] lines l h.lines_fit s f; first = b }

made_first : (f : TraceForm) (l : TraceLine) → before_turn [] f ≡ None → MakesTurn f l
    → BeginsWithTurn (l ∷ [])
made_first form.Turn (line.Turn t) e m = tt
made_first form.Turn (line.Join c) e m = m
made_first form.Turn (line.Got c bytes) e m = m
made_first form.Turn (line.End c) e m = m
made_first form.Turn (line.Fail c) e m = m
made_first form.Turn (line.Room c n) e m = m
made_first form.Join l e m = absurd cc
made_first form.Got l e m = absurd cc
made_first form.End l e m = absurd cc
made_first form.Fail l e m = absurd cc
made_first form.Room l e m = absurd cc

-- the line that a form makes where it may stand
pub begins_more : (lines : List TraceLine) (f : TraceForm) (l : TraceLine) → BeginsWithTurn lines
    → before_turn lines f ≡ None → MakesTurn f l → BeginsWithTurn (lines ++ l ∷ [])
begins_more [] f l b e m = made_first f l e m
begins_more (line.Turn t ∷ ls) f l b e m = tt
begins_more (line.Join c ∷ ls) f l b e m = b
begins_more (line.Got c bytes ∷ ls) f l b e m = b
begins_more (line.End c ∷ ls) f l b e m = b
begins_more (line.Fail c ∷ ls) f l b e m = b
begins_more (line.Room c n ∷ ls) f l b e m = b
