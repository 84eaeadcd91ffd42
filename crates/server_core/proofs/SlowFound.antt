-- The first connection that is too slow.
use Rattle.std.specs.Prelude.{◌≡◌, refl, ℕ, true, not, ◌&&◌, Option, Some, None}
use Rattle.std.specs.List.{find}
use Rattle.std.proofs.Common.{sym, ap, ◌∙◌, subst}
use Rattle.hello_states.specs.declared.part_cause.PartCause.TheVariants as cause
use Rattle.hello_states.specs.Phases.{is_parting}
use Rattle.machine.specs.Targets.{Client}
use Rattle.machine.specs.Connections.{Connection, is_live}
use Rattle.machine.specs.States.{State}
use Rattle.machine.specs.Combining.{for_some, unchanged}
use Rattle.machine.specs.Screens.{lives}
use Rattle.machine.specs.Partings.{part}
use Rattle.machine.specs.Slow as machine
use Rattle.machine.proofs.Live.{IsLive, tested-live}
use Rattle.machine.proofs.KeepPartings.{slow-live}
use Rattle.connection_table.specs.declared.connection.Connection as kept
use Rattle.connection_table.specs.Tables as tables
use Rattle.connection_table.specs.Standing.{StandsFor}
use Rattle.connection_table.proofs.Pairs.{FoundPair, live-first}
use Rattle.connection_table.proofs.Standing.{are-found}
use Rattle.server_core.specs.declared.server.ServerCore.{ServerCore}
use Rattle.server_core.specs.Leading.{LeadsWhere}
use Rattle.server_core.specs.Standing.{Beside, around, Stands}

-- one that lives is the first of its serial
pub lives-first : (b : Beside) (core : ServerCore) (s : State) (n : ℕ) → Stands b core s → IsLive s.connections (Client n) → lives s n ≡ true
lives-first b core s n h on = live-first n (StandsFor (around b s)) 0 core.table s.connections h.connections on

slow-pair : (b : Beside) (core : ServerCore) (s : State) → Stands b core s → FoundPair (StandsFor (around b s)) (find tables.is_too_slow core.table) (machine.first_slow s)
slow-pair b core s h = are-found (around b s) tables.is_too_slow (machine.is_too_slow s) agree core.table s.connections h.connections
  where
    agree : (k : kept.Connection) (c : Connection) → StandsFor (around b s) k c → tables.is_too_slow k ≡ machine.is_too_slow s c
    agree k c r = ap (λ p. not (is_parting p) && k.queue.is_slow) r.phase ∙ ap (λ x. is_live c && x) r.queue.is_slow

pub slow-none : (b : Beside) (core : ServerCore) (s : State) → None ≡ find tables.is_too_slow core.table → Stands b core s → machine.first_slow s ≡ None
slow-none b core s e h = by (machine.first_slow s) (subst (λ o. FoundPair (StandsFor (around b s)) o (machine.first_slow s)) (sym e) (slow-pair b core s h))
  where
    by : (o : Option Connection) → FoundPair (StandsFor (around b s)) None o → o ≡ None
    by None f = refl
    by (Some c) f = absurd f

pub slow-leads : (b : Beside) (old new : ServerCore) (s : State) (k : kept.Connection) (n : ℕ) → Some k ≡ find tables.is_too_slow old.table → n ≡ k.serial → Stands b old s → LeadsWhere (λ t. lives t n ≡ true) old new (part cause.Slow n) → Stands b new (machine.part_first_slow s)
slow-leads b old new s k n e of h leads = by (machine.first_slow s) refl (subst (λ o. FoundPair (StandsFor (around b s)) o (machine.first_slow s)) (sym e) (slow-pair b old s h))
  where
    by : (o : Option Connection) → machine.first_slow s ≡ o → FoundPair (StandsFor (around b s)) (Some k) o → Stands b new (for_some o (λ c. part cause.Slow c.serial) unchanged s)
    by None f r = absurd r
    by (Some c) f r =
        let on : lives s c.serial ≡ true = lives-first b old s c.serial h (tested-live (machine.is_too_slow s) s.connections c f (slow-live s c f)) in
        let same : n ≡ c.serial = of ∙ r.serial in
        subst (λ m. Stands b new (part cause.Slow m s)) same (leads b s (subst (λ m. lives s m ≡ true) (sym same) on) h)
