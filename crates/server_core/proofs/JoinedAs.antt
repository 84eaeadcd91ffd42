-- Who is joined as a screen.
use Rattle.std.specs.Prelude.{◌≡◌, refl, ℕ, ◌==◌, Bool, false, Option, Some, None, if◌then◌else◌}
use Rattle.std.proofs.lemmas.Bool.{eqb-true, false_from_ne_true}
use Rattle.std.specs.List.{find}
use Rattle.std.specs.Option.{option_map, option_map_or}
use Rattle.std.proofs.Common.{sym, ap, ◌∙◌, subst}
use Rattle.hello_states.specs.Phases.{joined_screen}
use Rattle.machine.specs.Targets as machine
use Rattle.machine.specs.Connections.{Connection}
use Rattle.machine.specs.States.{State}
use Rattle.machine.specs.Screens as screens
use Rattle.connection_table.specs.declared.connection.Connection as kept
use Rattle.connection_table.specs.Tables as tables
use Rattle.connection_table.specs.Standing.{StandsFor}
use Rattle.connection_table.proofs.Pairs.{FoundPair}
use Rattle.connection_table.proofs.Standing.{are-found}
use Rattle.server_core.specs.declared.server.ServerCore.{ServerCore}
use Rattle.server_core.specs.Standing.{Beside, around, Stands}

pair-as : (b : Beside) (core : ServerCore) (s : State) (n : ℕ) → Stands b core s → FoundPair (StandsFor (around b s)) (find (tables.is_joined_as n) core.table) (find (screens.is_joined_as n) s.connections)
pair-as b core s n h = are-found (around b s) (tables.is_joined_as n) (screens.is_joined_as n) (λ k c r. ap (λ p. option_map_or (screens.is_number n) (joined_screen p) false) r.phase) core.table s.connections h.connections

-- the one that is kept as joined is the machine's
pub some-as : (b : Beside) (core : ServerCore) (s : State) (n serial : ℕ) (k : kept.Connection) → Some k ≡ find (tables.is_joined_as n) core.table → serial ≡ k.serial → Stands b core s → Some (machine.Client serial) ≡ screens.client_as s n
some-as b core s n serial k e of h = by (find (screens.is_joined_as n) s.connections) (subst (λ o. FoundPair (StandsFor (around b s)) o (find (screens.is_joined_as n) s.connections)) (sym e) (pair-as b core s n h))
  where
    by : (o : Option Connection) → FoundPair (StandsFor (around b s)) (Some k) o → Some (machine.Client serial) ≡ option_map (λ (c : Connection). machine.Client c.serial) o
    by None f = absurd f
    by (Some c) f = ap (λ m. Some (machine.Client m)) (of ∙ f.serial)

-- where none is kept as joined, the machine has none
pub none-as : (b : Beside) (core : ServerCore) (s : State) (n : ℕ) → None ≡ find (tables.is_joined_as n) core.table → Stands b core s → None ≡ screens.client_as s n
none-as b core s n e h = by (find (screens.is_joined_as n) s.connections) (subst (λ o. FoundPair (StandsFor (around b s)) o (find (screens.is_joined_as n) s.connections)) (sym e) (pair-as b core s n h))
  where
    by : (o : Option Connection) → FoundPair (StandsFor (around b s)) None o → None ≡ option_map (λ (c : Connection). machine.Client c.serial) o
    by None f = refl
    by (Some c) f = absurd f

-- a screen that isn't the primary is a client's
pub other-as : (s : State) (n m : ℕ) → m ≡ s.primary → (n ≡ m → ⊥) → screens.target_of s n ≡ screens.client_as s n
other-as s n m e other = ap (λ (t : Bool). if t then Some machine.Primary else screens.client_as s n) (ap (λ p. n == p) (sym e) ∙ false_from_ne_true (n == m) (λ same. other (eqb-true n m same)))
