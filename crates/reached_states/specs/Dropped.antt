-- The law that a connection that lives has no bytes dropped.
use Rattle.std.specs.Prelude.{◌≡◌, ℕ, true, false, All}
use Rattle.machine.specs.Connections.{Connection, is_live}
use Rattle.machine.specs.States.{State}
use Rattle.reached_states.specs.Reaching.{Origin, Reached}

abbrev pub LiveKeepBytes : Type 0
LiveKeepBytes =
    (o : Origin) (latest : ℕ) (s : State) → Reached o latest s
    → All (λ (c : Connection). is_live c ≡ true → c.is_dropped ≡ false) s.connections
