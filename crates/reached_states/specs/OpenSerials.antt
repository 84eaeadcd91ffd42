-- The laws on the serials of the connections that are open: which ones a happening adds and
-- removes, that they rise, and that the one to be closed is open.
use Rattle.std.specs.Prelude.{◌≡◌, ℕ, ◌<◌, ◌≤◌, ◌+◌, ◌==◌, not, List, [], ◌∷◌, ◌++◌, length, filter, All, Some}
use Rattle.machine.specs.Connections.{Connection, serials}
use Rattle.machine.specs.States.{State}
use Rattle.machine.specs.Screens.{taken_by}
use Rattle.machine.specs.Queues.{most_untaken, queue}
use Rattle.machine.specs.Readings.{closing}
use Rattle.machine.specs.Happenings.{Happening, Joined, Closed, IsOpen}
use Rattle.machine.specs.Steps.{step}
use Rattle.reached_states.specs.Reaching.{Origin, Reached}

-- a new connection stands last, and a closed one is gone; nothing else opens or closes any
abbrev pub serials_after : Happening → List ℕ → List ℕ
serials_after (Joined serial) those = those ++ serial ∷ []
serials_after (Closed serial) those = filter (λ n. not (n == serial)) those
serials_after _ those = those

abbrev pub OpenAfter : Type 0
OpenAfter = (s : State) (h : Happening)
    → serials (step s h).connections ≡ serials_after h (serials s.connections)

-- ---- in order

-- each is above the one before, and the first above that number
abbrev pub Rise : ℕ → List ℕ → Type 0
Rise low [] = Unit {0}
Rise low (n ∷ ns) = (low < n) × Rise n ns

pub record AreInOrder (latest : ℕ) (s : State) : Type 0 where
  pub rise : Rise 0 (serials s.connections)
  pub upto : All (λ (c : Connection). c.serial ≤ latest) s.connections

abbrev pub SerialsRise : Type 0
SerialsRise = (o : Origin) (latest : ℕ) (s : State) → Reached o latest s → AreInOrder latest s

-- ---- single ones

abbrev pub ClosingIsOpen : Type 0
ClosingIsOpen = (s : State) (serial : ℕ) → closing s ≡ Some serial → IsOpen s serial

-- a connection has taken no more bytes than are queued for it
abbrev pub TakenIsQueued : Type 0
TakenIsQueued = (o : Origin) (latest : ℕ) (s : State) (serial : ℕ) → Reached o latest s
    → taken_by s serial ≤ length (queue s.routed serial)

-- and it is never owed more than the limit
abbrev pub UntakenIsBounded : Type 0
UntakenIsBounded = (o : Origin) (latest : ℕ) (s : State) (serial : ℕ) → Reached o latest s
    → IsOpen s serial → length (queue s.routed serial) ≤ taken_by s serial + most_untaken
