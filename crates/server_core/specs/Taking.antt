-- The bytes that connections take, as a server keeps them and as the machine has them.
use Rattle.std.specs.Prelude.{ℕ, List, []}
use Rattle.std.specs.List.{find}
use Rattle.std.specs.Option.{option_map_or}
use Rattle.machine.specs.Connections.{Connection}
use Rattle.machine.specs.States.{State}
use Rattle.machine.specs.Screens.{connection}
use Rattle.machine.specs.Queues.{queue, total}
use Rattle.send_queue.specs.Standing.{rest_of}
use Rattle.connection_table.specs.declared.connection.Connection as kept
use Rattle.connection_table.specs.Tables.{is_of}
use Rattle.server_core.specs.declared.server.ServerCore.{ServerCore}

-- ---- kept

abbrev pub queued_in : ServerCore → ℕ → List ℕ
queued_in core serial =
    option_map_or (λ (k : kept.Connection). k.queue.untaken) (find (is_of serial) core.table) []

abbrev pub taken_in : ServerCore → ℕ → ℕ
taken_in core serial =
    option_map_or (λ (k : kept.Connection). k.queue.taken) (find (is_of serial) core.table) 0

-- ---- in the machine

-- what an open connection may still take
abbrev pub untaken_by : State → ℕ → List ℕ
untaken_by s serial =
    option_map_or (λ (c : Connection). rest_of c.is_dropped c.taken (queue s.routed serial))
    (connection s serial) []

-- how many bytes were ever queued for an open connection
abbrev pub queued_for : State → ℕ → ℕ
queued_for s serial =
    option_map_or (λ (c : Connection). total s.routed serial) (connection s serial) 0
