-- What the code keeps of a trace's lines.
use Rattle.std.specs.Prelude.{◌≡◌, ℕ, ◌+◌, ◌&&◌, nat_le, max, false, List, [], length, get_or}
use Rattle.script_screen.specs.declared.track.Track.{Track}
use Rattle.script_screen.specs.declared.trace.TraceLine.{TraceLine}
use Rattle.script_screen.specs.declared.trace.TraceLine.TheVariants as line
use Rattle.script_screen.specs.declared.forms.TraceForm.{TraceForm}
use Rattle.script_screen.specs.declared.forms.TraceForm.TheVariants as form
use Rattle.script_screen.specs.Traces.{latest_moment, join_count, is_known, is_over, AreTraceLines}
use Rattle.script_screen.specs.Traces.{BeginsWithTurn}

-- the moment, the count of joins, and for each connection that may be named, from the first,
-- whether it is over
pub record IsTrackAfter (track : Track) (lines : List TraceLine) : Type 0 where
  pub moment : track.moment ≡ latest_moment lines
  pub joined : track.joined ≡ join_count lines
  pub size : length track.over.items ≡ max 1 track.joined
  pub known : (c : ℕ) → is_known lines c ≡ (nat_le 1 c && nat_le c (length track.over.items))
  pub over : (c : ℕ) → get_or track.over.items c false ≡ is_over lines (c + 1)

-- the lines of a trace so far, and what the code keeps of them
pub record IsTracedBy (track : Track) (lines : List TraceLine) : Type 0 where
  pub track_is : IsTrackAfter track lines
  pub lines_fit : AreTraceLines [] lines
  pub first : BeginsWithTurn lines

-- a form of a turn makes a turn
abbrev pub MakesTurn : TraceForm → TraceLine → Type 0
MakesTurn form.Turn (line.Turn t) = Unit {0}
MakesTurn form.Turn _ = ⊥
MakesTurn _ l = Unit {0}
