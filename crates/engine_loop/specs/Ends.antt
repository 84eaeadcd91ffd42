-- How a run of the loop ends, and the closings at its end.
use Rattle.std.specs.Prelude.{◌≡◌, ℕ, ◌≤◌, Bool, true, false, List, [], Result, Ok, Err}
use Rattle.std.specs.List.{list_all}
use Rattle.share_base.specs.Fronts.{IsFront}
use Rattle.share_base.specs.Writing.{SinkState}
use Rattle.hub_acts.specs.declared.act.Act.{Act}
use Rattle.hub_acts.specs.declared.answers.Waited.TheVariants as waited
use Rattle.hub_acts.specs.Counting.{Counts}
use Rattle.hub_acts.specs.Hubs.{HubState}
use Rattle.machine.specs.Connections.{serials}
use Rattle.machine.specs.States.{State}
use Rattle.machine.specs.Logs.{log_text}
use Rattle.machine.specs.Readings.{is_over}
use Rattle.reached_states.specs.Reaching.{Reached}
use Rattle.attentive_acts.specs.Places.{Waits, Leaves}
use Rattle.attentive_acts.specs.Judging.{Judge, leaving}
use Rattle.attentive_acts.specs.Offered.{is_ready}
use Rattle.engine_loop.specs.declared.serve_end.ServeEnd.{ServeEnd}
use Rattle.engine_loop.specs.declared.serve_end.ServeEnd.TheVariants as ends
use Rattle.engine_loop.specs.Stages.{Course, Made, first_of, waits_in}
use Rattle.engine_loop.specs.declared.watch.Watch.{Watch}
use Rattle.engine_loop.specs.Turns.{EndsInWait, Ended}

-- where so many turns may be made, the acts of the turns, which judged so, lead to that end
abbrev pub EndsBy : ServeEnd → ℕ → List Act → Judge → Type 0
EndsBy ends.Quit turns run j =
    (is_over j.state ≡ true) × (j.place ≡ Leaves []) × (list_all is_ready run ≡ true)
EndsBy ends.Over turns run j = EndsInWait waited.Over run
EndsBy ends.HubFault turns run j = EndsInWait waited.Failed run
EndsBy ends.TurnsSpent turns run j = (waits_in run ≡ turns) × (j.place ≡ Waits)
EndsBy ends.WriteFault turns run j = Unit {0}
EndsBy ends.OutOfMemory turns run j = Unit {0}

-- after the turns, connections left
pub record LeftSoFar {H : Type 0} (state : H → HubState) (leads : H → H → Type 0) (r : Course H)
    (turns : ℕ) (hub : H) : Type 0 where
  pub run : List Act
  pub judge : Judge
  pub leaves : List Act
  pub last : Judge
  pub between : HubState
  pub made : Made (first_of r) (state r.hub) between run judge
  pub left : Made (leaving judge) between (state hub) leaves last
  pub waits : waits_in run ≤ turns
  pub faults : Counts r.failed (state r.hub).faults (state hub).faults
  pub led : leads r.hub hub
  pub wrote : IsFront r.front (log_text last.state)

-- after the turns, which came to that end, the connections leave; those of the rest are still to be
-- closed
pub record Departing {E H : Type 0} (departs : E → List ℕ → State → Type 0) (state : H → HubState)
    (leads : H → H → Type 0) (r : Course H) (end : ServeEnd) (turns : ℕ) (core : E) (hub : H)
    (rest : List ℕ) : Type 0 where
  pub so_far : LeftSoFar state leads r turns hub
  pub open_now : serials so_far.last.state.connections ≡ rest
  pub reached : Reached r.origin so_far.last.latest so_far.last.state
  pub departed : departs core r.front so_far.last.state
  pub place : so_far.last.place ≡ Leaves rest
  pub cause : EndsBy end turns so_far.run so_far.judge

-- ---- the end of the turns

-- what holds where the run goes on to its closings
abbrev pub GoesOn : ServeEnd → Type 0 → Type 0
GoesOn ends.WriteFault holds = Unit {0}
GoesOn ends.OutOfMemory holds = Unit {0}
GoesOn end holds = holds

-- and after a turn
abbrev pub GoesOnAfter : Result (Unit {0}) ServeEnd → Type 0 → Type 0
GoesOnAfter (Ok done) holds = holds
GoesOnAfter (Err end) holds = GoesOn end holds

-- it is an end without closings
abbrev pub is_failure : ServeEnd → Bool
is_failure ends.WriteFault = true
is_failure ends.OutOfMemory = true
is_failure end = false

-- after as many waits as there were turns, or fewer
abbrev pub AfterTurns : {E H : Type 0} → (E → List ℕ → State → Type 0) → (H → HubState)
    → (H → H → Type 0) → Course H → ℕ → ServeEnd → E → H → Watch → SinkState → SinkState → Type 0
AfterTurns serves state leads r turns ends.TurnsSpent core hub watch old new =
    Ended serves state leads (record r { waits = turns }) ends.TurnsSpent core hub watch old new
AfterTurns serves state leads r turns end core hub watch old new = (n : ℕ) × (n ≤ turns)
    × Ended serves state leads (record r { waits = n }) end core hub watch old new
