-- What a run of the loop makes of its engine, its hub and its sink.
use Rattle.std.specs.Prelude.{◌≡◌, ℕ, ◌≤◌, true, List, [], ◌++◌}
use Rattle.std.specs.List.{list_all}
use Rattle.share_base.specs.Counts.{Rises}
use Rattle.share_base.specs.Fronts.{IsFront}
use Rattle.share_base.specs.Writing.{SinkState}
use Rattle.hub_acts.specs.declared.act.Act.{Act}
use Rattle.hub_acts.specs.Hubs.{HubState}
use Rattle.machine.specs.States.{State}
use Rattle.machine.specs.Logs.{log_text}
use Rattle.reached_states.specs.Reaching.{Origin, start_of}
use Rattle.attentive_acts.specs.Places.{Leaves}
use Rattle.attentive_acts.specs.Judging.{Judge, Follows, judged, first_judge, leaving}
use Rattle.attentive_acts.specs.Offered.{is_answered}
use Rattle.engine_loop.specs.declared.serve_end.ServeEnd.{ServeEnd}
use Rattle.engine_loop.specs.declared.serve_end.ServeEnd.TheVariants as ends
use Rattle.engine_loop.specs.Stages.{waits_in, known_with}
use Rattle.engine_loop.specs.Turns.{Wrote, Failed}
use Rattle.engine_loop.specs.Ends.{EndsBy}

-- ---- before a run

-- nothing was accepted yet
pub record IsNewHub (hub : HubState) : Type 0 where
  pub latest : hub.latest ≡ 0
  pub open_now : hub.open_now ≡ []

-- ---- its end

-- the hub's count of faults rose, or it stayed; at the other two ends it may have risen
abbrev pub HubCounts : ServeEnd → ℕ → ℕ → Type 0
HubCounts ends.HubFault old new = Rises old new
HubCounts ends.WriteFault old new = old ≤ new
HubCounts ends.OutOfMemory old new = old ≤ new
HubCounts end old new = new ≡ old

-- the sink got that log, or a front of it
abbrev pub LogsTo : ServeEnd → List ℕ → SinkState → SinkState → Type 0
LogsTo ends.WriteFault log old new = (text : List ℕ) × IsFront text log × Failed old new text
LogsTo ends.OutOfMemory log old new = (text : List ℕ) × IsFront text log × Wrote old new text
LogsTo end log old new = Wrote old new log

-- all connections that were open have left
abbrev pub IsWhole : ServeEnd → Judge → Type 0
IsWhole ends.WriteFault last = Unit {0}
IsWhole ends.OutOfMemory last = Unit {0}
IsWhole end last = last.place ≡ Leaves []

-- the engine is in that state, unless memory ran out
abbrev pub IsIn : {E : Type 0} → (E → List ℕ → State → Type 0) → ServeEnd → E → State → Type 0
IsIn departs ends.OutOfMemory core s = Unit {0}
IsIn departs end core s = (front : List ℕ) × departs core front s

-- ---- a run

-- the acts of the turns and then those of the closings were due, one after another, and no write
-- answered that memory ran out
pub record Serves {E H : Type 0} (departs : E → List ℕ → State → Type 0) (state : H → HubState)
    (leads : H → H → Type 0) (o : Origin) (turns : ℕ) (end : ServeEnd) (core : E) (old new : H)
    (sink sink' : SinkState) : Type 0 where
  pub run : List Act
  pub leaves : List Act
  pub judge : Judge
  pub last : Judge
  pub known : (state new).acts ≡ known_with (run ++ leaves) (state old).acts
  pub attentive : Follows (first_judge (start_of o)) run
  pub judges : judged (first_judge (start_of o)) run ≡ judge
  pub answered : list_all is_answered run ≡ true
  pub leave : Follows (leaving judge) leaves
  pub left : judged (leaving judge) leaves ≡ last
  pub whole : IsWhole end last
  pub few : waits_in run ≤ turns
  pub cause : EndsBy end turns run judge
  pub engine : IsIn departs end core last.state
  pub log : LogsTo end (log_text last.state) sink sink'
  pub faults : HubCounts end (state old).faults (state new).faults
  pub led : leads old new
