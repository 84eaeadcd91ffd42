-- What a turn of the loop leads to.
use Rattle.std.specs.Prelude.{◌≡◌, ℕ, ◌+◌, Bool, true, false, List, ◌++◌, ◌∷◌, [], Result, Ok, Err}
use Rattle.share_base.specs.declared.out_of_memory.OutOfMemory.{OutOfMemory}
use Rattle.share_base.specs.Counts.{Rises}
use Rattle.share_base.specs.Fronts.{IsFront}
use Rattle.share_base.specs.Told.{after}
use Rattle.share_base.specs.Writing.{SinkState}
use Rattle.hub_acts.specs.declared.act.Act.{Act}
use Rattle.hub_acts.specs.declared.act.Act.TheVariants as act
use Rattle.hub_acts.specs.declared.answers.Waited.{Waited}
use Rattle.hub_acts.specs.declared.answers.Waited.TheVariants as waited
use Rattle.hub_acts.specs.Hubs.{HubState}
use Rattle.machine.specs.Connections.{serials}
use Rattle.machine.specs.States.{State}
use Rattle.machine.specs.Logs.{log_text}
use Rattle.machine.specs.Readings.{is_over}
use Rattle.reached_states.specs.Reaching.{Origin, Reached}
use Rattle.attentive_acts.specs.Places.{Asks, Leaves}
use Rattle.attentive_acts.specs.Judging.{Judge}
use Rattle.engine_loop.specs.declared.serve_end.ServeEnd.{ServeEnd}
use Rattle.engine_loop.specs.declared.serve_end.ServeEnd.TheVariants as ends
use Rattle.engine_loop.specs.declared.watch.Watch.{Watch}
use Rattle.engine_loop.specs.Stages.{Course, GoesWell, Stage, Cut, Is, IsWaiting}

-- ---- the last wait

-- the last act is a wait that answered so
abbrev pub EndsInWait : Waited → List Act → Type 0
EndsInWait answer acts =
    (before : List Act) × (ms : ℕ) × (acts ≡ before ++ act.Wait ms answer [] ∷ [])

-- the open connections are to leave
abbrev pub HasEnded : Waited → List Act → Judge → Type 0
HasEnded answer acts j = EndsInWait answer acts × (j.place ≡ Leaves (serials j.state.connections))

abbrev pub waited_once : {H : Type 0} → Bool → Course H → Course H
waited_once failed r = record r { waits = r.waits + 1; failed = failed }

-- and the wait ended the turns
abbrev pub ended_once : {H : Type 0} → Bool → Course H → Course H
ended_once failed r = record r { waits = r.waits + 1; failed = failed; ready = false }

-- what a wait leads to
abbrev pub AfterWait : {E H : Type 0} → (E → List ℕ → State → Type 0) → (H → HubState)
    → (H → H → Type 0) → Course H → Result (Unit {0}) ServeEnd → E → H → Watch → Type 0
AfterWait serves state leads r (Ok done) core hub watch =
    Stage serves state leads (waited_once false r) core hub watch (Is (λ fs s. Asks))
AfterWait serves state leads r (Err ends.Over) core hub watch =
    Stage serves state leads (ended_once false r) core hub watch (HasEnded waited.Over)
AfterWait serves state leads r (Err ends.HubFault) core hub watch =
    Stage serves state leads (ended_once true r) core hub watch (HasEnded waited.Failed)
AfterWait serves state leads r (Err ends.OutOfMemory) core hub watch = Cut state leads r hub
AfterWait serves state leads r (Err end) core hub watch = ⊥

-- ---- the log

-- the sink got that text
pub record Wrote (old new : SinkState) (text : List ℕ) : Type 0 where
  pub taken : new.taken ≡ after old.taken text
  pub faults : new.faults ≡ old.faults

-- the sink got that text, and then it failed
pub record Failed (old new : SinkState) (text : List ℕ) : Type 0 where
  pub taken : new.taken ≡ after old.taken text
  pub faults : Rises old.faults new.faults

abbrev pub with_front : {H : Type 0} → List ℕ → Course H → Course H
with_front front r = record r { front = front }

-- the sink got what was cleared of the log
pub record Logged {E H : Type 0} (serves : E → List ℕ → State → Type 0) (state : H → HubState)
    (leads : H → H → Type 0) (r : Course H) (core : E) (hub : H) (watch : Watch)
    (old new : SinkState) (P : List Act → Judge → Type 0) : Type 0 where
  pub front : List ℕ
  pub stage : Stage serves state leads (with_front front r) core hub watch P
  pub wrote : Wrote old new front

-- the sink failed, and had got a front of the log
pub record Faulted {E H : Type 0} (serves : E → List ℕ → State → Type 0) (state : H → HubState)
    (leads : H → H → Type 0) (r : Course H) (core : E) (hub : H) (watch : Watch)
    (old new : SinkState) (P : List Act → Judge → Type 0) : Type 0 where
  pub front : List ℕ
  pub stage : Stage serves state leads (with_front front r) core hub watch P
  pub text : List ℕ
  pub begins : IsFront text (log_text stage.judge.state)
  pub failed : Failed old new text

-- memory ran out, and the sink had got what was cleared of the log
pub record CutShort {H : Type 0} (state : H → HubState) (leads : H → H → Type 0) (r : Course H)
    (hub : H) (old new : SinkState) : Type 0 where
  pub front : List ℕ
  pub cut : Cut state leads (with_front front r) hub
  pub wrote : Wrote old new front

-- what a turn leads to
abbrev pub HasQuit : List Act → Judge → Type 0
HasQuit acts j = (is_over j.state ≡ true) × (j.place ≡ Leaves [])

abbrev pub IsAny : List Act → Judge → Type 0
IsAny acts j = Unit {0}

-- where the turns end so, after those waits
abbrev pub Ended : {E H : Type 0} → (E → List ℕ → State → Type 0) → (H → HubState)
    → (H → H → Type 0) → Course H → ServeEnd → E → H → Watch → SinkState → SinkState → Type 0
Ended serves state leads r ends.Quit core hub watch old new =
    Logged serves state leads r core hub watch old new HasQuit
Ended serves state leads r ends.Over core hub watch old new =
    Logged serves state leads (record r { ready = false }) core hub watch old new
    (HasEnded waited.Over)
Ended serves state leads r ends.HubFault core hub watch old new =
    Logged serves state leads (record r { failed = true; ready = false }) core hub watch old new
    (HasEnded waited.Failed)
Ended serves state leads r ends.TurnsSpent core hub watch old new =
    Logged serves state leads r core hub watch old new IsWaiting
Ended serves state leads r ends.WriteFault core hub watch old new =
    Faulted serves state leads r core hub watch old new IsAny
Ended serves state leads r ends.OutOfMemory core hub watch old new =
    CutShort state leads r hub old new

-- ---- steps of a turn

-- after the log was written and cleared, or in part: the engine is in the same state
abbrev pub AfterLog : {E : Type 0} → (E → List ℕ → State → Type 0) → Result (Unit {0}) ServeEnd → E
    → List ℕ → State → SinkState → SinkState → Type 0
AfterLog serves (Ok done) core front s old new =
    (text : List ℕ) × (front ++ text ≡ log_text s) × Wrote old new text × serves core (log_text s) s
AfterLog serves (Err ends.WriteFault) core front s old new = (text : List ℕ)
    × IsFront (front ++ text) (log_text s) × Failed old new text × serves core front s
AfterLog serves (Err end) core front s old new = ⊥

abbrev pub LogsOn : {E : Type 0} → (E → List ℕ → State → Type 0) → Result (Unit {0}) ServeEnd → E
    → E → SinkState → SinkState → Type 0
LogsOn serves result core core' old new =
    (o : Origin) (latest : ℕ) (front : List ℕ) (s : State) → Reached o latest s
    → serves core front s → AfterLog serves result core' front s old new

-- a step, and the log after it, end the run only where they fail
abbrev pub EndsAtFailure : Result (Unit {0}) ServeEnd → Type 0
EndsAtFailure (Ok done) = Unit {0}
EndsAtFailure (Err ends.WriteFault) = Unit {0}
EndsAtFailure (Err ends.OutOfMemory) = Unit {0}
EndsAtFailure (Err end) = ⊥

-- the log is written only if the step before it was made
abbrev pub Heeds : {E : Type 0} → (E → List ℕ → State → Type 0) → Result (Unit {0}) OutOfMemory
    → Result (Unit {0}) ServeEnd → E → E → SinkState → SinkState → Type 0
Heeds serves (Ok done) result core core' old new = LogsOn serves result core core' old new
Heeds serves (Err e) result core core' old new = (result ≡ Err ends.OutOfMemory) × (new ≡ old)

-- what a turn, or turns, lead to
abbrev pub AfterTurn : {E H : Type 0} → (E → List ℕ → State → Type 0) → (H → HubState)
    → (H → H → Type 0) → Course H → Result (Unit {0}) ServeEnd → E → H → Watch → SinkState
    → SinkState → (List Act → Judge → Type 0) → Type 0
AfterTurn serves state leads r (Ok done) core hub watch old new P =
    Logged serves state leads r core hub watch old new P
AfterTurn serves state leads r (Err ends.TurnsSpent) core hub watch old new P = ⊥
AfterTurn serves state leads r (Err end) core hub watch old new P =
    Ended serves state leads r end core hub watch old new

-- on some course it is there, and what was cleared of the log is written
abbrev pub IsLoggedSomewhere : {E H : Type 0} → (E → List ℕ → State → Type 0) → (H → HubState)
    → (H → H → Type 0) → E → H → Watch → SinkState → (List Act → Judge → Type 0) → Type 0
IsLoggedSomewhere {H = H} serves state leads core hub watch new P = (old : SinkState)
    × (r : Course H) × GoesWell r × Logged serves state leads r core hub watch old new P

-- on some course no wait was made yet
abbrev pub IsStarted : {E H : Type 0} → (E → List ℕ → State → Type 0) → (H → HubState)
    → (H → H → Type 0) → E → H → Watch → SinkState → Type 0
IsStarted {H = H} serves state leads core hub watch new = (old : SinkState) × (r : Course H)
    × GoesWell r × (r.waits ≡ 0)
    × Logged serves state leads r core hub watch old new IsWaiting
