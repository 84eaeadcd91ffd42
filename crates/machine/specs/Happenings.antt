-- What happens to the server, and which happenings may come.
use Rattle.std.specs.Prelude.{◌≡◌, ℕ, ◌<◌, ◌≤◌, ◌+◌, true, is_some, List, length}
use Rattle.machine.specs.States.{State}
use Rattle.machine.specs.Screens.{connection, taken_by}
use Rattle.machine.specs.Queues.{queue}

pub data Happening : Type 0 where
  Joined : (serial : ℕ) → Happening
  Got : (serial : ℕ) (piece : List ℕ) → Happening
  Ended : (serial : ℕ) → Happening
  Failed : (serial : ℕ) → Happening
  Took : (serial count : ℕ) → Happening
  Moment : (t : ℕ) → Happening
  Closed : (serial : ℕ) → Happening

-- the greatest serial that was accepted
abbrev pub latest_after : ℕ → Happening → ℕ
latest_after latest (Joined serial) = serial
latest_after latest _ = latest

abbrev pub IsOpen : State → ℕ → Type 0
IsOpen s serial = is_some (connection s serial) ≡ true

-- a new serial is greater than all before, every other one is open, and what is taken was queued
abbrev pub IsAllowed : ℕ → State → Happening → Type 0
IsAllowed latest s (Joined serial) = latest < serial
IsAllowed latest s (Got serial piece) = IsOpen s serial
IsAllowed latest s (Ended serial) = IsOpen s serial
IsAllowed latest s (Failed serial) = IsOpen s serial
IsAllowed latest s (Took serial count) =
    IsOpen s serial × (taken_by s serial + count ≤ length (queue s.routed serial))
IsAllowed latest s (Moment t) = Unit {0}
IsAllowed latest s (Closed serial) = IsOpen s serial
