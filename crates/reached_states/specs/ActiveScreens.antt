-- The law that the connection of the active screen, where it is open, is joined; so the one that is
-- to be closed never is the active screen's.
use Rattle.std.specs.Prelude.{◌≡◌, ℕ, true, false, is_some, Some}
use Rattle.machine.specs.Targets.{Client, same_target}
use Rattle.machine.specs.Connections.{Connection}
use Rattle.machine.specs.States.{State}
use Rattle.machine.specs.Screens.{connection, screen_in}
use Rattle.machine.specs.Readings.{closing}
use Rattle.reached_states.specs.Reaching.{Origin, Reached}

pub record ActiveIsUp (s : State) : Type 0 where
  pub joined : (serial : ℕ) → s.active ≡ Client serial → (c : Connection)
      → connection s serial ≡ Some c → is_some (screen_in c) ≡ true
  pub closing_other : (serial : ℕ) → closing s ≡ Some serial
      → same_target s.active (Client serial) ≡ false

abbrev pub ActiveIsJoined : Type 0
ActiveIsJoined = (o : Origin) (latest : ℕ) (s : State) → Reached o latest s → ActiveIsUp s
