-- A connection of which the phase is known, and a server at which it came into another one.
use Rattle.std.specs.Prelude.{◌≡◌, refl, ℕ, Bool, true, false, not, ◌==◌, cond, List, [], ◌∷◌, length, Option, Some, None}
use Rattle.std.specs.List.{find}
use Rattle.std.specs.Option.{option_map, option_map_or}
use Rattle.std.proofs.Common.{sym, ap, ◌∙◌, subst}
use Rattle.hello_states.specs.Phases.{Phase, is_parting, used_screen}
use Rattle.machine.specs.Combining.{when}
use Rattle.machine.specs.Connections.{Connection, has_serial, is_live, changed, advanced}
use Rattle.machine.specs.States.{State}
use Rattle.machine.specs.Screens.{connection, phase_of, lives, change}
use Rattle.machine.proofs.Finding.{none_some, some_is}
use Rattle.connection_table.specs.declared.connection.Connection as kept
use Rattle.connection_table.specs.Calls.{Advances}
use Rattle.connection_table.specs.PhaseOf as kept_phase
use Rattle.connection_table.specs.Tables.{is_of, ChangesAt}
use Rattle.connection_table.specs.Standing.{StandsFor, IsKnown}
use Rattle.connection_table.proofs.Advancing.{in_phase, are-advanced, pairs-found}
use Rattle.server_core.specs.declared.server.ServerCore.{ServerCore}
use Rattle.server_core.specs.Standing.{Beside, around, Stands}
use Rattle.server_core.proofs.Changed.{stands-changed}
use Rattle.server_core.proofs.Found.{some-read}

pub phase-lives : (s : State) (n : ℕ) (p : Phase) → phase_of s n ≡ Some p → is_parting p ≡ false → lives s n ≡ true
phase-lives s n p e off = by (connection s n) e
  where
    by : (o : Option Connection) → option_map (λ (c : Connection). c.phase) o ≡ Some p → option_map_or is_live o false ≡ true
    by None e = none_some p e
    by (Some c) e = ap not (ap is_parting (some_is c.phase p e) ∙ off)

found-phase : (s : State) (n : ℕ) (p : Phase) (c : Connection) → phase_of s n ≡ Some p → connection s n ≡ Some c → c.phase ≡ p
found-phase s n p c e f = some_is c.phase p (sym (ap (λ (o : Option Connection). option_map (λ (d : Connection). d.phase) o) f) ∙ e)

-- a screen that is used is one of the configuration
pub phase-known : (b : Beside) (core : ServerCore) (s : State) (n : ℕ) (p : Phase) → phase_of s n ≡ Some p → Stands b core s → IsKnown (length s.config.screens) (used_screen p)
phase-known b core s n p e h = by (connection s n) refl e
  where
    by : (o : Option Connection) → connection s n ≡ o → option_map (λ (c : Connection). c.phase) o ≡ Some p → IsKnown (length s.config.screens) (used_screen p)
    by None f e = none_some p e
    by (Some c) f e = subst (λ q. IsKnown (length s.config.screens) (used_screen q)) (some_is c.phase p e) (pairs-found (StandsFor (around b s)) (λ d. IsKnown (length s.config.screens) (used_screen d.phase)) (has_serial n) (λ k d r. r.known) 0 core.table s.connections c f h.connections)

pub same-serial : (q : Phase) (c : Connection) → (advanced q c).serial ≡ c.serial
same-serial q c = by (is_live c)
  where
    by : (t : Bool) → (when t (λ (d : Connection). record d { phase = q }) c).serial ≡ c.serial
    by true = refl
    by false = refl

-- it comes into the phase that follows the one that it was in
pub stands-advanced : (b : Beside) (core : ServerCore) (s : State) (table : List kept.Connection) (n : ℕ) (p q : Phase) (next : Phase → Phase) → ((x : Phase) → not (is_parting (next x)) ≡ true → not (is_parting x) ≡ true) → (IsKnown (length s.config.screens) (used_screen p) → IsKnown (length s.config.screens) (used_screen (next p))) → next p ≡ q → is_parting p ≡ false → phase_of s n ≡ Some p → Stands b core s → ChangesAt n (Advances next) core.table table → Stands b (record core { table = table }) (change n (advanced q) s)
stands-advanced b core s table n p q next ends keeps to off e h g =
    stands-changed b core s table n (advanced q) (same-serial q) h (are-advanced (around b s) n next (advanced q) core.table table s.connections ends known (same-serial q) here h.connections g)
  where
    known : (c : Connection) → find (has_serial n) s.connections ≡ Some c → IsKnown (length s.config.screens) (used_screen c.phase) → IsKnown (length s.config.screens) (used_screen (next c.phase))
    known c f k =
        let at : c.phase ≡ p = found-phase s n p c e f in
        subst (λ (x : Phase). IsKnown (length s.config.screens) (used_screen (next x))) (sym at) (keeps (subst (λ (x : Phase). IsKnown (length s.config.screens) (used_screen x)) at k))

    here : (c : Connection) → find (has_serial n) s.connections ≡ Some c → advanced q c ≡ in_phase (next c.phase) c
    here c f =
        let at : c.phase ≡ p = found-phase s n p c e f in
        let on : is_live c ≡ true = ap not (ap is_parting at ∙ off) in
        ap (λ (t : Bool). when t (λ (d : Connection). record d { phase = q }) c) on ∙ ap (λ (x : Phase). in_phase x c) (sym to ∙ ap next (sym at))

-- ---- the kept connection

pub phase-kept : (b : Beside) (core : ServerCore) (s : State) (n : ℕ) (k : kept.Connection) (p : Phase) → Some k ≡ find (is_of n) core.table → kept_phase.phase_of k.phase ≡ p → Stands b core s → phase_of s n ≡ Some p
phase-kept b core s n k p e is h = sym (some-read b core s n k (Some p) (λ o. option_map (λ (c : Connection). c.phase) o) e h (λ c r. ap (λ (x : Phase). Some x) (sym is ∙ r.phase)))

-- ---- a change of a connection that is there

found-changed : (n : ℕ) (f : Connection → Connection) → ((c : Connection) → (f c).serial ≡ c.serial) → (cs : List Connection) → find (has_serial n) (changed n f cs) ≡ option_map f (find (has_serial n) cs)
found-changed n f same [] = refl
found-changed n f same (c ∷ cs) = by (c.serial == n) refl (found-changed n f same cs)
  where
    by : (t : Bool) → (c.serial == n) ≡ t → find (has_serial n) (changed n f cs) ≡ option_map f (find (has_serial n) cs) → cond ((when t f c).serial == n) (Some (when t f c)) (find (has_serial n) (changed n f cs)) ≡ option_map f (cond t (Some c) (find (has_serial n) cs))
    by true e rest = ap (λ (t : Bool). cond t (Some (f c)) (find (has_serial n) (changed n f cs))) (ap (λ m. m == n) (same c) ∙ e)
    by false e rest = ap (λ (t : Bool). cond t (Some c) (find (has_serial n) (changed n f cs))) e ∙ rest

pub phase-changed : (s : State) (n : ℕ) (f : Connection → Connection) (next : Phase → Phase) (p : Phase) → ((c : Connection) → (f c).serial ≡ c.serial) → ((c : Connection) → (f c).phase ≡ next c.phase) → phase_of s n ≡ Some p → phase_of (change n f s) n ≡ Some (next p)
phase-changed s n f next p same goes e = ap (λ (o : Option Connection). option_map (λ (c : Connection). c.phase) o) (found-changed n f same s.connections) ∙ by (connection s n) e
  where
    by : (o : Option Connection) → option_map (λ (c : Connection). c.phase) o ≡ Some p → option_map (λ (c : Connection). c.phase) (option_map f o) ≡ Some (next p)
    by None e = none_some p e
    by (Some c) e = ap (λ (x : Phase). Some x) (goes c ∙ ap next (some_is c.phase p e))
