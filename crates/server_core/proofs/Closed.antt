-- A server that closed a connection is in the state after it.
use Rattle.std.specs.Prelude.{◌≡◌, refl, ℕ, ◌==◌, Bool, true, false, not, cond, ◌||◌, List, [], ◌∷◌, ◌++◌, Option, Some, None, is_some, unwrap_or}
use Rattle.std.specs.List.{find, list_any}
use Rattle.std.specs.Option.{option_map}
use Rattle.std.proofs.Common.{arith, sym, ap, ◌∙◌, subst}
use Rattle.machine.specs.Targets.{Target, Primary, Client, same_target}
use Rattle.machine.specs.Connections.{Connection, has_serial, removed}
use Rattle.machine.specs.States.{State, Closed}
use Rattle.machine.specs.Screens.{connection, taken_by}
use Rattle.machine.specs.Queues.{total}
use Rattle.machine.specs.Happenings.{IsOpen}
use Rattle.machine.specs.Logs.{log_line}
use Rattle.machine.specs.Steps.{close}
use Rattle.machine.proofs.Finding.{found-passes}
use Rattle.connection_table.specs.declared.connection.Connection as kept
use Rattle.connection_table.specs.Tables.{is_of, without}
use Rattle.connection_table.specs.Standing.{StandsFor, AreFor}
use Rattle.connection_table.proofs.Pairs.{FoundPair}
use Rattle.connection_table.proofs.Standing.{are-found}
use Rattle.connection_table.proofs.Removing.{are-removed}
use Rattle.server_core.specs.declared.server.ServerCore.{ServerCore}
use Rattle.server_core.specs.Targets.{IsOpenIn, IsThere}
use Rattle.server_core.specs.Standing.{Beside, around, StandsWhere}
use Rattle.server_core.specs.Serving.{Serves, Departs}
use Rattle.server_core.proofs.LogText.{log-one}
use Prim.{search}

-- a target other than the one that was removed is still open
kept_open : (n m : ℕ) (cs : List Connection) → (m == n) ≡ false → list_any (has_serial m) cs ≡ true → list_any (has_serial m) (removed n cs) ≡ true
kept_open n m [] other h = h
kept_open n m (c ∷ cs) other h = by (c.serial == n) refl (c.serial == m) refl h (kept_open n m cs other)
  where
    clash : (i : ℕ) → (i == n) ≡ true → (i == m) ≡ true → ⊥
    clash i e f = grind (arith, e, f, other)

    by : (a : Bool) → (c.serial == n) ≡ a → (b : Bool) → (c.serial == m) ≡ b → (b || list_any (has_serial m) cs) ≡ true → (list_any (has_serial m) cs ≡ true → list_any (has_serial m) (removed n cs) ≡ true) → list_any (has_serial m) (cond (not a) (c ∷ removed n cs) (removed n cs)) ≡ true
    by true e true f h later = absurd (clash c.serial e f)
    by true e false f h later = later h
    by false e true f h later = ap (λ x. x || list_any (has_serial m) (removed n cs)) f
    by false e false f h later = ap (λ x. x || list_any (has_serial m) (removed n cs)) f ∙ later h

pub removed-open : (n : ℕ) (cs : List Connection) (t : Target) → same_target t (Client n) ≡ false → IsOpenIn cs t → IsOpenIn (removed n cs) t
removed-open n cs Primary other h = tt
removed-open n cs (Client m) other h = kept_open n m cs other h

-- ---- the log's line

equal : (m n : ℕ) → (m == n) ≡ true → m ≡ n
equal m n h = grind (arith, h)

-- what an open connection took, and what was ever queued for it
line_of_open : (P : State → Type 0) (b : Beside) (core : ServerCore) (s : State) (n : ℕ) (k : kept.Connection) → Some k ≡ find (is_of n) core.table → StandsWhere P b core s → Closed n k.queue.taken k.queue.total ≡ Closed n (taken_by s n) (total s.routed n)
line_of_open P b core s n k e h = by (connection s n) refl (subst (λ o. FoundPair (StandsFor (around b s)) o (connection s n)) (sym e) (are-found (around b s) (is_of n) (has_serial n) (λ k c r. ap (λ m. m == n) r.serial) core.table s.connections h.connections))
  where
    by : (o : Option Connection) → connection s n ≡ o → FoundPair (StandsFor (around b s)) (Some k) o → Closed n k.queue.taken k.queue.total ≡ Closed n (unwrap_or (option_map (λ (c : Connection). c.taken) o) 0) (total s.routed n)
    by None f r = absurd r
    by (Some c) f r =
        ap (λ t. Closed n t k.queue.total) r.taken
        ∙ ap (λ t. Closed n c.taken t) (r.queue.total ∙ ap (total s.routed) (equal c.serial n (found-passes (has_serial n) s.connections c f)))

-- ---- the state after it

pub stands-closed : (P Q : State → Type 0) (b : Beside) (core : ServerCore) (s : State) (n : ℕ) (k : kept.Connection) (table : List kept.Connection) (log : List ℕ) → Some k ≡ find (is_of n) core.table → table ≡ without n core.table → log ≡ core.log ++ log_line (Closed n k.queue.taken k.queue.total) → Q (close n s) → StandsWhere P b core s → StandsWhere Q b (record core { table = table; log = log }) (close n s)
stands-closed P Q b core s n k table log e is logged there h = search (subst (λ ks. AreFor (around b s) ks (removed n s.connections)) (sym is) (are-removed (around b s) n core.table s.connections h.connections), log-one b.front core.log log s.log (Closed n (taken_by s n) (total s.routed n)) h.log (logged ∙ ap (λ l. core.log ++ log_line l) (line_of_open P b core s n k e h)))

-- ---- where no such connection is kept

-- the machine has none either
pub not-open : (P : State → Type 0) (b : Beside) (core : ServerCore) (s : State) (n : ℕ) → None ≡ find (is_of n) core.table → IsOpen s n → StandsWhere P b core s → ⊥
not-open P b core s n e open_in h = by (connection s n) open_in (subst (λ o. FoundPair (StandsFor (around b s)) o (connection s n)) (sym e) (are-found (around b s) (is_of n) (has_serial n) (λ k c r. ap (λ m. m == n) r.serial) core.table s.connections h.connections))
  where
    by : (o : Option Connection) → is_some o ≡ true → FoundPair (StandsFor (around b s)) None o → ⊥
    by None i f = let x : ⊥ = cc in x
    by (Some c) i f = f

-- ---- the call

pub departs-closed : (front : List ℕ) (core : ServerCore) (s : State) (n : ℕ) (k : kept.Connection) (table : List kept.Connection) (log : List ℕ) → Some k ≡ find (is_of n) core.table → table ≡ without n core.table → log ≡ core.log ++ log_line (Closed n k.queue.taken k.queue.total) → Departs front core s → Departs front (record core { table = table; log = log }) (close n s)
departs-closed front core s n k table log e is logged h = record {
  beside = h.beside;
  front_is = h.front_is;
  rests = h.rests;
  leaves = stands-closed (λ t. Unit {0}) (λ t. Unit {0}) h.beside core s n k table log e is logged tt h.leaves;
}

pub serves-closed : (front : List ℕ) (core : ServerCore) (s : State) (n : ℕ) (k : kept.Connection) (table : List kept.Connection) (log : List ℕ) → Some k ≡ find (is_of n) core.table → table ≡ without n core.table → log ≡ core.log ++ log_line (Closed n k.queue.taken k.queue.total) → same_target s.active (Client n) ≡ false → Serves front core s → Serves front (record core { table = table; log = log }) (close n s)
serves-closed front core s n k table log e is logged other h = record {
  beside = h.beside;
  front_is = h.front_is;
  rests = h.rests;
  stands = stands-closed (λ t. IsThere t t.active) (λ t. IsThere t t.active) h.beside core s n k table log e is logged (removed-open n s.connections s.active other h.stands.there) h.stands;
}
