-- How far a run of the loop has come.
use Rattle.std.specs.Prelude.{◌≡◌, ℕ, ◌≤◌, Bool, true, false, List, ◌++◌, count_by, Option, None, Some, Result, Ok, Err}
use Rattle.std.specs.List.{list_all}
use Rattle.std.specs.Option.{option_map}
use Rattle.share_base.specs.declared.out_of_memory.OutOfMemory.{OutOfMemory}
use Rattle.share_base.specs.Fronts.{IsFront}
use Rattle.hub_acts.specs.declared.act.Act.{Act}
use Rattle.hub_acts.specs.declared.act.Act.TheVariants as act
use Rattle.hub_acts.specs.Counting.{Counts}
use Rattle.hub_acts.specs.Hubs.{HubState}
use Rattle.machine.specs.Connections.{serials}
use Rattle.machine.specs.States.{State}
use Rattle.machine.specs.Queues.{total}
use Rattle.machine.specs.Logs.{log_text}
use Rattle.reached_states.specs.Reaching.{Origin, Reached, start_of}
use Rattle.attentive_acts.specs.Flags.{Flags, has_more}
use Rattle.machine.specs.Readings.{closing}
use Rattle.attentive_acts.specs.Places.{Place, Waits, at_closes, at_turn_end}
use Rattle.attentive_acts.specs.Judging.{Judge, Follows, judged, first_judge}
use Rattle.attentive_acts.specs.Offered.{is_answered, is_ready}
use Rattle.engine_loop.specs.declared.watch.Watch.{Watch}
use Rattle.engine_loop.specs.Watches.{flags_of, serials_in, AreSeen}

-- ---- acts

abbrev pub is_wait : Act → Bool
is_wait (act.Wait ms answer marks) = true
is_wait a = false

abbrev pub waits_in : List Act → ℕ
waits_in acts = count_by is_wait acts

-- acts were made after those that are known
abbrev pub known_with : List Act → Option (List Act) → Option (List Act)
known_with acts known = option_map (λ before. before ++ acts) known

-- acts that were due, one after another; no write answered that memory ran out
pub record Made (first : Judge) (old new : HubState) (acts : List Act) (last : Judge) : Type 0 where
  pub follows : Follows first acts
  pub judges : judged first acts ≡ last
  pub answered : list_all is_answered acts ≡ true
  pub known : new.acts ≡ known_with acts old.acts

-- ---- a run

-- what it began with, the text of the log that was cleared, how many waits were made, whether the
-- latest one failed, and whether all were ready
pub record Course (H : Type 0) : Type 0 where
  pub origin : Origin
  pub hub : H
  pub front : List ℕ
  pub waits : ℕ
  pub failed : Bool
  pub ready : Bool

-- no wait ended the turns
abbrev pub GoesWell : {H : Type 0} → Course H → Type 0
GoesWell r = (r.failed ≡ false) × (r.ready ≡ true)

abbrev pub first_of : {H : Type 0} → Course H → Judge
first_of r = first_judge (start_of r.origin)

-- the acts were due, and the engine, the hub and what is watched are where they lead. There P holds
-- of them
pub record Stage {E H : Type 0} (serves : E → List ℕ → State → Type 0) (state : H → HubState)
    (leads : H → H → Type 0) (r : Course H) (core : E) (hub : H) (watch : Watch)
    (P : List Act → Judge → Type 0) : Type 0 where
  pub acts : List Act
  pub judge : Judge
  pub made : Made (first_of r) (state r.hub) (state hub) acts judge
  pub waits : waits_in acts ≡ r.waits
  pub ready : list_all is_ready acts ≡ r.ready
  pub faults : Counts r.failed (state r.hub).faults (state hub).faults
  pub led : leads r.hub hub
  pub latest : judge.latest ≡ (state hub).latest
  pub flags : judge.flags ≡ flags_of (total judge.state.routed) watch
  pub seen : AreSeen (total judge.state.routed) watch.streams.items
  pub watched : serials_in watch ≡ serials judge.state.connections
  pub reached : Reached r.origin judge.latest judge.state
  pub served : serves core r.front judge.state
  pub wrote : IsFront r.front (log_text judge.state)
  pub there : P acts judge

-- memory ran out after acts that were due
pub record Cut {H : Type 0} (state : H → HubState) (leads : H → H → Type 0) (r : Course H) (hub : H)
    : Type 0 where
  pub acts : List Act
  pub judge : Judge
  pub made : Made (first_of r) (state r.hub) (state hub) acts judge
  pub waits : waits_in acts ≤ r.waits
  pub faults : Counts r.failed (state r.hub).faults (state hub).faults
  pub led : leads r.hub hub
  pub wrote : IsFront r.front (log_text judge.state)

-- the act that is due, by the flags and the state
abbrev pub Is : (Flags → State → Place) → List Act → Judge → Type 0
Is due acts j = j.place ≡ due j.flags j.state

-- a turn was made, and nothing is to be closed any more
abbrev pub IsTurned : List Act → Judge → Type 0
IsTurned acts j = (j.place ≡ at_turn_end j.state) × (closing j.state ≡ None)

abbrev pub IsWaiting : List Act → Judge → Type 0
IsWaiting acts j = (j.place ≡ Waits) × (closing j.state ≡ None)

abbrev pub IsToClose : ℕ → List Act → Judge → Type 0
IsToClose serial acts j = (j.place ≡ at_closes j.state) × (closing j.state ≡ Some serial)

-- on some course it is there
abbrev pub IsSomewhere : {E H : Type 0} → (E → List ℕ → State → Type 0) → (H → HubState)
    → (H → H → Type 0) → E → H → Watch → (List Act → Judge → Type 0) → Type 0
IsSomewhere {H = H} serves state leads core hub watch P =
    (r : Course H) × Stage serves state leads r core hub watch P

abbrev pub After : Result (Unit {0}) OutOfMemory → Type 0 → Type 0 → Type 0
After (Ok done) stage cut = stage
After (Err e) stage cut = cut

-- from the one stage to the other, on every course
abbrev pub Passes : {E H : Type 0} → (E → List ℕ → State → Type 0) → (H → HubState)
    → (H → H → Type 0) → Result (Unit {0}) OutOfMemory → E → E → H → H → Watch → Watch
    → (List Act → Judge → Type 0) → (List Act → Judge → Type 0) → Type 0
Passes {H = H} serves state leads result core core' hub hub' watch watch' P Q =
    (r : Course H) → Stage serves state leads r core hub watch P
    → After result (Stage serves state leads r core' hub' watch' Q) (Cut state leads r hub')

-- ---- what is read off

-- the answer is what the definition gives of the flags and the state
abbrev pub Answers : {E A : Type 0} → (E → List ℕ → State → Type 0) → E → Watch → A
    → (Flags → State → A) → Type 0
Answers serves core watch answer f =
    (o : Origin) (latest : ℕ) (front : List ℕ) (s : State) → Reached o latest s
    → serves core front s → serials_in watch ≡ serials s.connections
    → answer ≡ f (flags_of (total s.routed) watch) s

abbrev pub HasMore : {E : Type 0} → (E → List ℕ → State → Type 0) → E → ℕ → Bool → Type 0
HasMore serves core serial answer = (o : Origin) (latest : ℕ) (front : List ℕ) (s : State)
    → Reached o latest s → serves core front s → answer ≡ has_more s serial
