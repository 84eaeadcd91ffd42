-- A server between two happenings: every message that came of a connection's bytes was heard, and
-- nothing in them was bad.
use Rattle.std.specs.Prelude.{◌≡◌, ℕ, ◌+◌, ◌≤◌, List, None, false}
use Rattle.machine.specs.Targets.{Client, same_target}
use Rattle.machine.specs.States.{State}
use Rattle.machine.specs.Happenings.{IsOpen}
use Rattle.machine.specs.Steps.{inbox_of, close}
use Rattle.server_core.specs.declared.server.ServerCore.{ServerCore}
use Rattle.server_core.specs.Standing.{Beside, Stands, Leaves}
use Rattle.server_core.specs.Receiving.{given_by, more_at}

abbrev pub Rests : Beside → Type 0
Rests b = (serial : ℕ) → (b.given serial ≡ (inbox_of (b.received serial)).messages)
    × ((inbox_of (b.received serial)).bad ≡ None)

-- the text of the log up to that front was cleared
pub record Serves (front : List ℕ) (core : ServerCore) (s : State) : Type 0 where
  pub beside : Beside
  pub front_is : beside.front ≡ front
  pub rests : Rests beside
  pub stands : Stands beside core s

-- from each state between two happenings by that rule
abbrev pub LeadsServing : ServerCore → ServerCore → (State → State) → Type 0
LeadsServing old new rule =
    (front : List ℕ) (s : State) → Serves front old s → Serves front new (rule s)

-- at a run's end, when the active screen may be gone
pub record Departs (front : List ℕ) (core : ServerCore) (s : State) : Type 0 where
  pub beside : Beside
  pub front_is : beside.front ≡ front
  pub rests : Rests beside
  pub leaves : Leaves beside core s

-- a close of that serial, which is open: also where it is the active one, the state is known, as at
-- a run's end
abbrev pub ClosesDeparting : ℕ → ServerCore → ServerCore → Type 0
ClosesDeparting serial old new =
    (front : List ℕ) (s : State) → IsOpen s serial → Departs front old s
    → Departs front new (close serial s)

-- where it isn't the active one, the server goes on
abbrev pub ClosesServing : ℕ → ServerCore → ServerCore → Type 0
ClosesServing serial old new =
    (front : List ℕ) (s : State) → IsOpen s serial
    → same_target s.active (Client serial) ≡ false → Serves front old s
    → Serves front new (close serial s)

-- every connection is given at most what it was, and that one so many bytes more
abbrev pub GivesMore : ℕ → ℕ → ServerCore → ServerCore → Type 0
GivesMore serial count old new =
    (front : List ℕ) (s : State) → Serves front old s → (n : ℕ)
    → given_by new n ≤ given_by old n + more_at serial count n
