use Rattle.std.proofs.Common.{◌≡◌, ℕ, ◌||◌, drop}
use Rattle.std.specs.List.{list_any}
use Rattle.share_base.specs.Screens.{has}
use Rattle.connection_table.specs.Tables.{is_joined_as}
use Rattle.server_core.proofs.joined.add_all.Given as goal

abbrev pub invariant-loop-connection : goal.invariant-loop-connection
invariant-loop-connection l = (k : ℕ) → (has l.screens k || list_any (is_joined_as k) (drop l.connection-index l.connections)) ≡ (has l.fn.screens k || list_any (is_joined_as k) l.connections)
