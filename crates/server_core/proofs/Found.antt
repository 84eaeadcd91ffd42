-- What is read of a connection that is found by its serial.
use Rattle.std.specs.Prelude.{◌≡◌, refl, ℕ, ◌==◌, Option, Some, None}
use Rattle.std.specs.List.{find}
use Rattle.std.proofs.Common.{sym, ap, subst}
use Rattle.machine.specs.Connections.{Connection, has_serial}
use Rattle.machine.specs.States.{State}
use Rattle.machine.specs.Screens.{connection}
use Rattle.connection_table.specs.declared.connection.Connection as kept
use Rattle.connection_table.specs.Tables.{is_of}
use Rattle.connection_table.specs.Standing.{StandsFor}
use Rattle.connection_table.proofs.Pairs.{FoundPair}
use Rattle.connection_table.proofs.Standing.{are-found}
use Rattle.server_core.specs.declared.server.ServerCore.{ServerCore}
use Rattle.server_core.specs.Standing.{Beside, around, Stands}

pair-at : (b : Beside) (core : ServerCore) (s : State) (n : ℕ) → Stands b core s → FoundPair (StandsFor (around b s)) (find (is_of n) core.table) (connection s n)
pair-at b core s n h = are-found (around b s) (is_of n) (has_serial n) (λ k c r. ap (λ m. m == n) r.serial) core.table s.connections h.connections

-- what is read of the kept connection is what is read of the machine's
pub some-read : {A : Type 0} (b : Beside) (core : ServerCore) (s : State) (n : ℕ) (k : kept.Connection) (x : A) (g : Option Connection → A) → Some k ≡ find (is_of n) core.table → Stands b core s → ((c : Connection) → StandsFor (around b s) k c → x ≡ g (Some c)) → x ≡ g (connection s n)
some-read {A} b core s n k x g e h each = by (connection s n) (subst (λ o. FoundPair (StandsFor (around b s)) o (connection s n)) (sym e) (pair-at b core s n h))
  where
    by : (o : Option Connection) → FoundPair (StandsFor (around b s)) (Some k) o → x ≡ g o
    by None f = absurd f
    by (Some c) f = each c f

-- where none is kept, the machine has none
pub none-read : (b : Beside) (core : ServerCore) (s : State) (n : ℕ) → None ≡ find (is_of n) core.table → Stands b core s → connection s n ≡ None
none-read b core s n e h = by (connection s n) (subst (λ o. FoundPair (StandsFor (around b s)) o (connection s n)) (sym e) (pair-at b core s n h))
  where
    by : (o : Option Connection) → FoundPair (StandsFor (around b s)) None o → o ≡ None
    by None f = refl
    by (Some c) f = absurd f
