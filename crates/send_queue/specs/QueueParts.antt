-- What contracts see of a send queue.
use Rattle.std.specs.Prelude.{ℕ, ◌+◌, ◌≤◌, ◌<◌, ◌^◌, Bool, List}
use Rattle.machine.specs.Queues.{most_untaken}

pub record QueueParts : Type 0 where
  pub untaken : List ℕ  -- the bytes that are to be taken
  pub total : ℕ  -- how many bytes were ever queued
  pub taken : ℕ  -- how many were taken
  pub is_slow : Bool  -- a frame was left out
  pub is_discarded : Bool  -- what was not taken was dropped

-- what is untaken was queued after what was taken, it isn't too much, and the numbers stay small
pub record AreSound (untaken taken total : ℕ) : Type 0 where
  pub apart : taken + untaken ≤ total
  pub few : total ≤ taken + most_untaken
  pub small : total < 2 ^ 63
