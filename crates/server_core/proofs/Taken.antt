-- What a kept connection may still take, and what it took, is what the machine says.
use Rattle.std.specs.Prelude.{◌≡◌, ℕ, ◌+◌, ◌≤◌, ◌<◌, ◌==◌, true, List, [], length, Option, Some, None, IfSome, unwrap_or}
use Rattle.std.specs.List.{find}
use Rattle.std.specs.Option.{option_map, option_map_or}
use Rattle.std.proofs.Common.{arith, sym, ap, ◌∙◌, refl}
use Rattle.machine.specs.Connections.{Connection}
use Rattle.machine.specs.States.{State}
use Rattle.machine.specs.Screens.{taken_by}
use Rattle.machine.specs.Queues.{queue, total}
use Rattle.machine.proofs.Finding.{found-passes}
use Rattle.send_queue.specs.Standing.{rest_of}
use Rattle.connection_table.specs.declared.connection.Connection as kept
use Rattle.connection_table.specs.Tables.{is_of}
use Rattle.connection_table.specs.Standing.{StandsFor}
use Rattle.server_core.specs.declared.server.ServerCore.{ServerCore}
use Rattle.server_core.specs.Standing.{Beside, around, Stands}
use Rattle.server_core.specs.Taking.{queued_in, taken_in, untaken_by, queued_for}
use Rattle.server_core.proofs.Found.{some-read, none-read}

equal : (m n : ℕ) → (m == n) ≡ true → m ≡ n
equal m n h = grind (arith, h)

-- the one that is found has the serial
pub found_serial : (n : ℕ) (ks : List kept.Connection) (k : kept.Connection) → find (is_of n) ks ≡ Some k → k.serial ≡ n
found_serial n ks k e = equal k.serial n (found-passes (is_of n) ks k e)

pub some-untaken : (b : Beside) (core : ServerCore) (s : State) (n : ℕ) (k : kept.Connection) → Some k ≡ find (is_of n) core.table → k.serial ≡ n → Stands b core s → k.queue.untaken ≡ untaken_by s n
some-untaken b core s n k e is h = some-read b core s n k k.queue.untaken (λ o. option_map_or (λ (c : Connection). rest_of c.is_dropped c.taken (queue s.routed n)) o []) e h each
  where
    each : (c : Connection) → StandsFor (around b s) k c → k.queue.untaken ≡ rest_of c.is_dropped c.taken (queue s.routed n)
    each c r =
        r.queue.untaken
        ∙ ap (λ d. rest_of d k.queue.taken (queue s.routed c.serial)) r.dropped
        ∙ ap (λ t. rest_of c.is_dropped t (queue s.routed c.serial)) r.taken
        ∙ ap (λ m. rest_of c.is_dropped c.taken (queue s.routed m)) (sym r.serial ∙ is)

pub none-untaken : (b : Beside) (core : ServerCore) (s : State) (n : ℕ) → None ≡ find (is_of n) core.table → Stands b core s → [] ≡ untaken_by s n
none-untaken b core s n e h = sym (ap (λ o. option_map_or (λ (c : Connection). rest_of c.is_dropped c.taken (queue s.routed n)) o []) (none-read b core s n e h))

-- the untaken bytes that are kept are those of the machine
pub queued-read : (b : Beside) (core : ServerCore) (s : State) (n : ℕ) → Stands b core s → queued_in core n ≡ untaken_by s n
queued-read b core s n h = by (find (is_of n) core.table) refl
  where
    by : (o : Option kept.Connection) → find (is_of n) core.table ≡ o → option_map_or (λ (k : kept.Connection). k.queue.untaken) o [] ≡ untaken_by s n
    by None e = none-untaken b core s n (sym e) h
    by (Some k) e = some-untaken b core s n k (sym e) (found_serial n core.table k e) h

-- as many were taken
pub taken-read : (b : Beside) (core : ServerCore) (s : State) (n : ℕ) → Stands b core s → taken_in core n ≡ taken_by s n
taken-read b core s n h = by (find (is_of n) core.table) refl
  where
    by : (o : Option kept.Connection) → find (is_of n) core.table ≡ o → option_map_or (λ (k : kept.Connection). k.queue.taken) o 0 ≡ taken_by s n
    by None e = sym (ap (λ o. unwrap_or (option_map (λ (c : Connection). c.taken) o) 0) (none-read b core s n (sym e) h))
    by (Some k) e = some-read b core s n k k.queue.taken (λ o. unwrap_or (option_map (λ (c : Connection). c.taken) o) 0) (sym e) h (λ c r. r.taken)

-- ---- conditions

pub may-take : (core : ServerCore) (n count : ℕ) → count ≤ length (queued_in core n) → IfSome (find (is_of n) core.table) (λ c. count ≤ length c.queue.untaken)
may-take core n count h = by (find (is_of n) core.table) h
  where
    by : (o : Option kept.Connection) → count ≤ length (option_map_or (λ (k : kept.Connection). k.queue.untaken) o []) → IfSome o (λ c. count ≤ length c.queue.untaken)
    by None h = tt
    by (Some k) h = h

pub take-fits : (core : ServerCore) (n count limit : ℕ) → taken_in core n + count < limit → IfSome (find (is_of n) core.table) (λ c. c.queue.taken + count < limit)
take-fits core n count limit h = by (find (is_of n) core.table) h
  where
    by : (o : Option kept.Connection) → option_map_or (λ (k : kept.Connection). k.queue.taken) o 0 + count < limit → IfSome o (λ c. c.queue.taken + count < limit)
    by None h = tt
    by (Some k) h = h

pub some-total : (b : Beside) (core : ServerCore) (s : State) (n : ℕ) (k : kept.Connection) → Some k ≡ find (is_of n) core.table → k.serial ≡ n → Stands b core s → k.queue.total ≡ queued_for s n
some-total b core s n k e is h = some-read b core s n k k.queue.total (λ o. option_map_or (λ (c : Connection). total s.routed n) o 0) e h (λ c r. r.queue.total ∙ ap (total s.routed) (sym r.serial ∙ is))

pub none-total : (b : Beside) (core : ServerCore) (s : State) (n : ℕ) → None ≡ find (is_of n) core.table → Stands b core s → 0 ≡ queued_for s n
none-total b core s n e h = sym (ap (λ o. option_map_or (λ (c : Connection). total s.routed n) o 0) (none-read b core s n e h))
