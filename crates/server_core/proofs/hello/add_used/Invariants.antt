use Rattle.std.proofs.Common.{◌≡◌, ℕ, ◌||◌, drop}
use Rattle.std.specs.List.{list_any}
use Rattle.share_base.specs.Screens.{has}
use Rattle.server_core.specs.Using.{is_using}
use Rattle.server_core.proofs.hello.add_used.Given as goal

abbrev pub invariant-loop-connection : goal.invariant-loop-connection
invariant-loop-connection l = (k : ℕ) → (has l.screens k || list_any (is_using k) (drop l.connection-index l.connections)) ≡ (has l.fn.screens k || list_any (is_using k) l.connections)
