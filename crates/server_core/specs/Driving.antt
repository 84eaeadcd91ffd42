-- A server as the loop drives it.
use Rattle.std.specs.Prelude.{ℕ, List}
use Rattle.machine.specs.States.{State}
use Rattle.server_core.specs.declared.server.ServerCore.{ServerCore}
use Rattle.server_core.specs.Serving.{Serves, Departs}

abbrev pub serves_in : ServerCore → List ℕ → State → Type 0
serves_in core front s = Serves front core s

abbrev pub departs_in : ServerCore → List ℕ → State → Type 0
departs_in core front s = Departs front core s
