-- The headline: what every run of the server's loop keeps, whatever its hub answers.
use Rattle.std.specs.Prelude.{◌≡◌, true, List, ◌++◌}
use Rattle.std.specs.List.{list_all}
use Rattle.screen_config.specs.Sound.{IsSound}
use Rattle.hub_acts.specs.declared.act.Act.{Act}
use Rattle.machine.specs.Held.{OnlyActiveHolds, HasScriptButtons}
use Rattle.reached_states.specs.Reaching.{Origin, start_of}
use Rattle.attentive_acts.specs.Judging.{Follows, judged, first_judge, leaving}
use Rattle.attentive_acts.specs.Offered.{is_answered}
use Rattle.headline.specs.Moments.{state_over, Throughout}
use Rattle.headline.specs.Taking.{TakesInOrder, TakesAll}
use Rattle.headline.specs.OneTarget.{EachGoesOneWay}

-- of the joined screens, the primary among them, one that isn't active holds no key and no button;
-- the active one holds just what it was told to press since it was entered, and not to lift
abbrev pub OthersHoldNothing : Origin → List Act → Type 0
OthersHoldNothing o acts = OnlyActiveHolds (state_over o acts)

-- over the acts of a run's turns, and of the closings at its end
pub record Shared (o : Origin) (run leaves : List Act) : Type 0 where
  pub prefix : Throughout (TakesInOrder o) (run ++ leaves)
  pub all_taken : TakesAll o run
  pub one_target : Throughout (EachGoesOneWay o) (run ++ leaves)
  pub others_hold_nothing : Throughout (OthersHoldNothing o) (run ++ leaves)

-- ---- the law

-- acts of turns that were due one after another, and then those of the closings; no act answers
-- that memory ran out
pub record AreAttended (o : Origin) (run leaves : List Act) : Type 0 where
  pub answered : list_all is_answered run ≡ true
  pub attentive : Follows (first_judge (start_of o)) run
  pub leave : Follows (leaving (judged (first_judge (start_of o)) run)) leaves

-- under a configuration that was read, and a script whose keys go down at a script's buttons
abbrev pub SharedByAttention : Type 0
SharedByAttention =
    (o : Origin) (run leaves : List Act)
    → IsSound o.config → HasScriptButtons o.script → AreAttended o run leaves → Shared o run leaves
