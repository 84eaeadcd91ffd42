-- The laws that a connection which takes what it is offered has taken all: at each wait, and when
-- the run has quit.
use Rattle.std.specs.Prelude.{◌≡◌, ℕ, ◌+◌, ◌<◌, ◌==◌, ◌&&◌, ◌⊎◌, Bool, true, false, nat_le, List, [], ◌∷◌, ◌++◌, length, Some}
use Rattle.std.specs.List.{fold, list_all, list_any}
use Rattle.screen_config.specs.Configurations.{Configuration}
use Rattle.hub_acts.specs.declared.act.Act.{Act}
use Rattle.hub_acts.specs.declared.act.Act.TheVariants as act
use Rattle.hub_acts.specs.declared.answers.Waited.{Waited}
use Rattle.hub_acts.specs.declared.answers.Waited.TheVariants as waited
use Rattle.hub_acts.specs.declared.answers.AcceptAnswer.TheVariants as accepted
use Rattle.hub_acts.specs.declared.answers.WriteAnswer.TheVariants as written
use Rattle.hub_acts.specs.declared.marks.Mark.{Mark}
use Rattle.hub_acts.specs.declared.marks.Mark.TheVariants as mark
use Rattle.hello_states.specs.Phases.{Phase, Parting, closing_time}
use Rattle.machine.specs.Scripts.{Script}
use Rattle.machine.specs.Connections.{Connection}
use Rattle.machine.specs.States.{State}
use Rattle.machine.specs.Screens.{connection}
use Rattle.machine.specs.Queues.{queue, total}
use Rattle.machine.specs.Readings.{is_over}
use Rattle.machine.specs.Acceptance.{start}
use Rattle.attentive_acts.specs.Flags.{has_more}
use Rattle.attentive_acts.specs.Places.{Closes}
use Rattle.attentive_acts.specs.Judging.{Judge, judged, first_judge}
use Rattle.attentive_acts.specs.Laws.{taken_bytes, judge_of, AreAttentive}

-- ---- the turn before a wait

-- the acts since the latest wait
abbrev pub turn_with : List Act → Act → List Act
turn_with turn (act.Wait ms answer marks) = []
turn_with turn a = turn ++ a ∷ []

abbrev pub turn_of : List Act → List Act
turn_of acts = fold turn_with [] acts

-- ---- a write that was refused

abbrev pub is_write_to : ℕ → Act → Bool
is_write_to c (act.Write d bytes answer) = d == c
is_write_to c a = false

-- a mark that it may be written to
abbrev pub is_writable_mark : ℕ → Mark → Bool
is_writable_mark c (mark.Stream d readable writable) = (d == c) && writable
is_writable_mark c mark.Accept = false

abbrev pub marks_writable : ℕ → Act → Bool
marks_writable c (act.Wait ms waited.Ready marks) = list_any (is_writable_mark c) marks
marks_writable c a = false

-- its latest write answered NotNow, and since then neither such a mark came nor was a byte queued
pub record RefusedSince (first : Judge) (c : ℕ) (acts : List Act) : Type 0 where
  pub before : List Act
  pub bytes : List ℕ
  pub since : List Act
  pub split : acts ≡ before ++ act.Write c bytes written.NotNow ∷ since
  pub latest : list_any (is_write_to c) since ≡ false
  pub unmarked : list_any (marks_writable c) since ≡ false
  pub none_queued : total (judged first acts).state.routed c
      ≡ total (judged first before).state.routed c

-- ---- at each wait

-- want of memory ends a run, and is no act
abbrev pub is_answered : Act → Bool
is_answered (act.Write d bytes written.OutOfMemory) = false
is_answered a = true

-- a connection that has bytes to take at a wait took some in the turn before, or refused the latest
-- that were offered
abbrev pub AllTakenAtWaits : Type 0
AllTakenAtWaits =
    (config : Configuration) (script : Script) (now : ℕ) (before after : List Act) (ms : ℕ)
    (answer : Waited) (marks : List Mark)
    → AreAttentive config script now (before ++ act.Wait ms answer marks ∷ after)
    → list_all is_answered before ≡ true
    → (c : ℕ) → has_more (judge_of config script now before).state c ≡ true
    → (0 < length (taken_bytes c (turn_of before)))
    ⊎ RefusedSince (first_judge (start config script now)) c before

-- ---- at closings

abbrev pub is_time_over : Phase → State → Bool
is_time_over (Parting cause moment) s = nat_le (moment + closing_time) s.at
is_time_over _ s = false

-- a connection that is closed in a turn had its bytes dropped, or its time is over, or it has taken
-- its whole queue
abbrev pub AllTakenAtClosings : Type 0
AllTakenAtClosings =
    (config : Configuration) (script : Script) (now : ℕ) (before after : List Act) (c : ℕ)
    → AreAttentive config script now (before ++ act.Close c ∷ after)
    → (judge_of config script now before).place ≡ Closes
    → (k : Connection) → connection (judge_of config script now before).state c ≡ Some k
    → (k.is_dropped ≡ true)
    ⊎ ((is_time_over k.phase (judge_of config script now before).state ≡ true)
    ⊎ (taken_bytes c before ≡ queue (judge_of config script now before).state.routed c))

-- ---- when the run has quit

abbrev pub is_ready : Act → Bool
is_ready (act.Wait ms waited.Ready marks) = true
is_ready (act.Wait ms answer marks) = false
is_ready a = true

abbrev pub accepts_it : ℕ → Act → Bool
accepts_it c (act.Accept (accepted.New d)) = d == c
accepts_it c a = false

pub record WasClosedInTurn (first : Judge) (c : ℕ) (acts : List Act) : Type 0 where
  pub before : List Act
  pub after : List Act
  pub split : acts ≡ before ++ act.Close c ∷ after
  pub place : (judged first before).place ≡ Closes

-- where no wait ended the run and it is over, each connection that was accepted was closed in a
-- turn
abbrev pub ClosedOnQuit : Type 0
ClosedOnQuit =
    (config : Configuration) (script : Script) (now : ℕ) (acts : List Act)
    → AreAttentive config script now acts → list_all is_ready acts ≡ true
    → is_over (judge_of config script now acts).state ≡ true
    → (c : ℕ) → list_any (accepts_it c) acts ≡ true
    → WasClosedInTurn (first_judge (start config script now)) c acts

-- it was closed in a turn as its bytes were dropped, or as its time was over
pub record WasCutOff (first : Judge) (c : ℕ) (acts : List Act) : Type 0 where
  pub closed : WasClosedInTurn first c acts
  pub connection_is : Connection
  pub found : connection (judged first closed.before).state c ≡ Some connection_is
  pub cause : (connection_is.is_dropped ≡ true)
      ⊎ (is_time_over connection_is.phase (judged first closed.before).state ≡ true)

-- there each that wasn't cut off has taken its whole queue
abbrev pub AllTakenOnQuit : Type 0
AllTakenOnQuit =
    (config : Configuration) (script : Script) (now : ℕ) (acts : List Act)
    → AreAttentive config script now acts → list_all is_ready acts ≡ true
    → is_over (judge_of config script now acts).state ≡ true
    → (c : ℕ) → list_any (accepts_it c) acts ≡ true
    → WasCutOff (first_judge (start config script now)) c acts
    ⊎ (taken_bytes c acts ≡ queue (judge_of config script now acts).state.routed c)
