-- The moments at which something of the connections is due.
use Rattle.std.specs.Prelude.{ℕ, List}
use Rattle.std.specs.List.{flat_map}
use Rattle.machine.specs.Connections.{Connection}
use Rattle.machine.specs.States.{State}
use Rattle.machine.specs.Readings.{due_in}

abbrev pub due_of : State → Connection → List ℕ
due_of s c = due_in c.phase s c

abbrev pub connections_due : State → List ℕ
connections_due s = flat_map (due_of s) s.connections
