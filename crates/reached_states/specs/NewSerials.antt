-- The law that a serial above the latest one is new.
use Rattle.std.specs.Prelude.{◌≡◌, ℕ, ◌<◌, [], All}
use Rattle.machine.specs.Targets.{Client}
use Rattle.machine.specs.Connections.{Connection}
use Rattle.machine.specs.States.{State}
use Rattle.machine.specs.Queues.{entries_for}
use Rattle.reached_states.specs.Reaching.{Origin, Reached}

-- it isn't 0, all connections have lesser serials, and nothing was told to it
pub record IsNewSerial (serial : ℕ) (s : State) : Type 0 where
  pub positive : 0 < serial
  pub above : All (λ (c : Connection). c.serial < serial) s.connections
  pub untold : entries_for (Client serial) s.routed ≡ []

abbrev pub NewIsUntold : Type 0
NewIsUntold = (o : Origin) (latest : ℕ) (s : State) (serial : ℕ) → Reached o latest s
    → latest < serial → IsNewSerial serial s
