-- The law that the log and the list of all that was told only grow, at their ends.
use Rattle.std.specs.Prelude.{◌≡◌, List, length, take}
use Rattle.share_base.specs.Fronts.{IsFront}
use Rattle.machine.specs.States.{State}
use Rattle.machine.specs.Logs.{log_text}
use Rattle.machine.specs.Happenings.{Happening}
use Rattle.machine.specs.Steps.{run}

pub record OnlyGrows (old new : State) : Type 0 where
  pub text : IsFront (log_text old) (log_text new)
  pub lines : take (length old.log) new.log ≡ old.log
  pub told : take (length old.routed) new.routed ≡ old.routed

-- from any state, by any happenings
abbrev pub LogGrows : Type 0
LogGrows = (s : State) (hs : List Happening) → OnlyGrows s (run hs s)
