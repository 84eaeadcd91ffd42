-- What connections take of the frames that the machine queues for them.
use Rattle.std.specs.Prelude.{◌≡◌, ℕ, ◌<◌, ◌⊎◌, true, List, ◌∷◌, ◌++◌, length}
use Rattle.std.specs.List.{list_all, list_any}
use Rattle.share_base.specs.Fronts.{IsFront}
use Rattle.hub_acts.specs.declared.act.Act.{Act}
use Rattle.hub_acts.specs.declared.act.Act.TheVariants as act
use Rattle.hub_acts.specs.declared.answers.Waited.{Waited}
use Rattle.hub_acts.specs.declared.marks.Mark.{Mark}
use Rattle.machine.specs.Queues.{queue}
use Rattle.machine.specs.Readings.{is_over}
use Rattle.reached_states.specs.Reaching.{Origin, start_of}
use Rattle.attentive_acts.specs.Flags.{has_more}
use Rattle.attentive_acts.specs.Judging.{first_judge}
use Rattle.attentive_acts.specs.Laws.{taken_bytes}
use Rattle.attentive_acts.specs.Offered.{turn_of, RefusedSince, is_ready, accepts_it, WasCutOff}
use Rattle.headline.specs.Moments.{state_over}

-- the bytes that each connection's writes took, one after another, are a prefix of its queue
abbrev pub TakesInOrder : Origin → List Act → Type 0
TakesInOrder o acts = (c : ℕ) → IsFront (taken_bytes c acts) (queue (state_over o acts).routed c)

-- ---- all of it, where it takes what is offered

-- it took bytes in the turn before; or its latest write answered that there is no room, and since
-- then no mark said that there is some again, nor was a byte queued for it
abbrev pub TookOrRefused : Origin → ℕ → List Act → Type 0
TookOrRefused o c acts =
    (0 < length (taken_bytes c (turn_of acts))) ⊎ RefusedSince (first_judge (start_of o)) c acts

-- at each wait, each connection that has untaken bytes and may still take them
abbrev pub TakesAllByWaits : Origin → List Act → Type 0
TakesAllByWaits o run =
    (before after : List Act) (ms : ℕ) (answer : Waited) (marks : List Mark)
    → run ≡ before ++ act.Wait ms answer marks ∷ after
    → (c : ℕ) → has_more (state_over o before) c ≡ true → TookOrRefused o c before

-- no wait ended the run; the script has quit, and no connection is left
pub record EndsByQuit (o : Origin) (run : List Act) : Type 0 where
  pub ready : list_all is_ready run ≡ true
  pub over : is_over (state_over o run) ≡ true

-- then each connection that was accepted has taken its whole queue, unless it was closed with its
-- bytes dropped or as its closing time was over
abbrev pub TakesAllByQuit : Origin → List Act → Type 0
TakesAllByQuit o run =
    EndsByQuit o run → (c : ℕ) → list_any (accepts_it c) run ≡ true
    → WasCutOff (first_judge (start_of o)) c run
    ⊎ (taken_bytes c run ≡ queue (state_over o run).routed c)

-- over the acts of the turns
pub record TakesAll (o : Origin) (run : List Act) : Type 0 where
  pub at_waits : TakesAllByWaits o run
  pub on_quit : TakesAllByQuit o run
