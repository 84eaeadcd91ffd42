-- A server whose log or whose connections changed is in the state after it.
use Rattle.std.specs.Prelude.{◌≡◌, ℕ, List, [], ◌∷◌, ◌++◌}
use Rattle.machine.specs.Connections.{Connection, changed}
use Rattle.machine.specs.States.{State, LogLine}
use Rattle.machine.specs.Screens.{change}
use Rattle.machine.specs.Routing.{logs}
use Rattle.machine.specs.Logs.{log_line}
use Rattle.connection_table.specs.declared.connection.Connection as kept
use Rattle.connection_table.specs.Standing.{AreFor}
use Rattle.server_core.specs.declared.server.ServerCore.{ServerCore}
use Rattle.server_core.specs.Standing.{Beside, around, Stands}
use Rattle.server_core.proofs.LogText.{log-one}
use Rattle.server_core.proofs.Open.{changed-open}
use Prim.{search}

-- one line more was logged
pub stands-logged : (b : Beside) (core : ServerCore) (s : State) (log : List ℕ) (line : LogLine) → Stands b core s → log ≡ core.log ++ log_line line → Stands b (record core { log = log }) (logs (line ∷ []) s)
stands-logged b core s log line h e = search (log-one b.front core.log log s.log line h.log e)

-- the connection of a serial changed
pub stands-changed : (b : Beside) (core : ServerCore) (s : State) (table : List kept.Connection) (serial : ℕ) (f : Connection → Connection) → ((c : Connection) → (f c).serial ≡ c.serial) → Stands b core s → AreFor (around b s) table (changed serial f s.connections) → Stands b (record core { table = table }) (change serial f s)
stands-changed b core s table serial f same h all = search (changed-open serial f same s.connections s.active h.there)
