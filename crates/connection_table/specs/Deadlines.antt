-- What is read of a kept connection, where it stands for one of the machine's.
use Rattle.std.specs.Prelude.{◌≡◌}
use Rattle.machine.specs.Connections.{Connection}
use Rattle.machine.specs.States.{State}
use Rattle.connection_table.specs.declared.connection.Connection as kept
use Rattle.connection_table.specs.Standing.{Surroundings, StandsFor}

-- in each state of the machine that has what was told beside
abbrev pub ReadsOf : {A : Type 0} → kept.Connection → A → (State → Connection → A) → Type 0
ReadsOf k answer f = (a : Surroundings) (s : State) (c : Connection) → a.routed ≡ s.routed
    → StandsFor a k c → answer ≡ f s c
