-- The machine's laws, said of the states that are reached.
use Rattle.std.specs.Prelude.{ℕ, List}
use Rattle.screen_config.specs.Sound.{IsSound}
use Rattle.machine.specs.States.{State}
use Rattle.machine.specs.Happenings.{Happening}
use Rattle.machine.specs.Held.{OnlyActiveHolds, HasScriptButtons}
use Rattle.machine.specs.NothingLeftOut.{NothingIsLeftOut}
use Rattle.machine.specs.OneForOne.{IsOneForOne, lines_run}
use Rattle.reached_states.specs.Reaching.{Origin, start_of, Reached, ReachedBy}

-- under a configuration that was read, and a script whose keys go down at a script's buttons
abbrev pub HeldWhereReached : Type 0
HeldWhereReached = (o : Origin) (latest : ℕ) (s : State) → Reached o latest s → IsSound o.config
    → HasScriptButtons o.script → OnlyActiveHolds s

abbrev pub AllQueuedWhereReached : Type 0
AllQueuedWhereReached =
    (o : Origin) (latest : ℕ) (s : State) → Reached o latest s → NothingIsLeftOut s

-- of the lines that ran on the way
abbrev pub OneForOneWhereReached : Type 0
OneForOneWhereReached = (o : Origin) (hs : List Happening) (latest : ℕ) (s : State)
    → ReachedBy o hs latest s → IsOneForOne (lines_run hs (start_of o)) s
