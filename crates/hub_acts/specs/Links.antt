-- What a link tells, and what a call does to it.
use Rattle.std.specs.Prelude.{◌≡◌, ℕ, List, Option}
use Rattle.hub_acts.specs.declared.act.Act.{Act}
use Rattle.hub_acts.specs.Acts.{known_after}
use Rattle.hub_acts.specs.Counting.{Counts, counts_in, is_fault, is_break}

-- the acts, where they are known, and two counts
pub record LinkState : Type 0 where
  pub acts : Option (List Act)
  pub faults : ℕ
  pub breaks : ℕ

-- a call that made this act, or none, led from the one state to the other
pub record LinkCalls (made : Option Act) (old new : LinkState) : Type 0 where
  pub acts : new.acts ≡ known_after made old.acts
  pub faults : Counts (counts_in is_fault made) old.faults new.faults
  pub breaks : Counts (counts_in is_break made) old.breaks new.breaks
