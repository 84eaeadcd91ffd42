-- Which routed entries a queue represents.
use Rattle.std.specs.Prelude.{◌≡◌, ℕ, Bool, true, false, not, ◌&&◌, ◌==◌, List, [], drop}
use Rattle.machine.specs.Targets.{Client, Entry}
use Rattle.machine.specs.Queues.{queue, total, is_slow, entries_for}
use Rattle.send_queue.specs.QueueParts.{QueueParts}

-- what is left of the queued bytes; nothing, where the rest was dropped
abbrev pub rest_of : Bool → ℕ → List ℕ → List ℕ
rest_of true taken bytes = []
rest_of false taken bytes = drop taken bytes

-- it is the queue of the connection of that serial after these entries
pub record Stands (q : QueueParts) (routed : List Entry) (serial : ℕ) : Type 0 where
  pub untaken : q.untaken ≡ rest_of q.is_discarded q.taken (queue routed serial)
  pub total : q.total ≡ total routed serial
  pub is_slow : q.is_slow ≡ is_slow routed serial

-- it is the queue of every connection that was sent nothing
abbrev pub Begins : QueueParts → Type 0
Begins q =
    (routed : List Entry) (serial : ℕ)
    → entries_for (Client serial) routed ≡ [] → Stands q routed serial

-- bytes are left, unless they were dropped or all were taken
abbrev pub IsLeft : QueueParts → Bool → Type 0
IsLeft q left =
    (routed : List Entry) (serial : ℕ) → Stands q routed serial
    → left ≡ (not q.is_discarded && not (total routed serial == q.taken))
