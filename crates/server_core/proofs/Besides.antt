-- What is told of connections that don't live may be anything, and so may be nothing.
use Rattle.std.specs.Prelude.{◌≡◌, refl, ℕ, ◌≤◌, ◌==◌, Bool, true, false, not, cond, List, [], length, Option, Some, None, if◌then◌else◌}
use Rattle.std.specs.List.{find, list_any}
use Rattle.std.specs.Option.{option_map_or}
use Rattle.std.proofs.Common.{arith, ap, ◌∙◌}
use Rattle.message_codec.specs.declared.messages.Msg.{Msg}
use Rattle.hello_states.specs.Phases.{is_parting}
use Rattle.machine.specs.Connections.{Connection, has_serial, is_live}
use Rattle.machine.specs.States.{State}
use Rattle.machine.specs.Screens.{lives}
use Rattle.machine.specs.Steps.{inbox_of}
use Rattle.machine.proofs.Finding.{found-passes}
use Rattle.machine.proofs.Live.{lives_as}
use Rattle.connection_table.specs.declared.connection.Connection as kept
use Rattle.connection_table.specs.Tables.{is_of}
use Rattle.connection_table.specs.Standing.{StandsFor}
use Rattle.connection_table.proofs.Pairs.{FoundPair, live-first}
use Rattle.connection_table.proofs.Standing.{are-found}
use Rattle.connection_table.proofs.Readings.{IsSameAt, are-heard}
use Rattle.server_core.specs.declared.server.ServerCore.{ServerCore}
use Rattle.server_core.specs.Standing.{Beside, around, StandsWhere, Stands, IsBlank}
use Rattle.server_core.specs.Targets.{IsThere}
use Rattle.server_core.specs.Leading.{Leads}
use Rattle.server_core.specs.Serving.{Rests}
use Rattle.server_core.specs.Receiving.{given_to, given_by}
use Prim.{search}

abbrev pub with_told : (ℕ → List ℕ) → (ℕ → List Msg) → Beside → Beside
with_told received given b = record b { received = received; given = given }

-- the same is told of those that live
pub stands-told-of : (P : State → Type 0) (b : Beside) (core : ServerCore) (s : State) (received : ℕ → List ℕ) (given : ℕ → List Msg) → ((n : ℕ) → list_any (lives_as n) s.connections ≡ true → IsSameAt (around b s) received given n) → StandsWhere P b core s → StandsWhere P (with_told received given b) core s
stands-told-of P b core s received given same h = search (are-heard (around b s) received given core.table s.connections same h.connections)

-- ---- only those that live are told of

abbrev pub if_live : {A : Type 0} → State → (ℕ → List A) → ℕ → List A
if_live s f n = cond (lives s n) (f n) []

abbrev pub only_live : State → Beside → Beside
only_live s b = with_told (if_live s b.received) (if_live s b.given) b

pub stands-only : (P : State → Type 0) (b : Beside) (core : ServerCore) (s : State) → StandsWhere P b core s → StandsWhere P (only_live s b) core s
stands-only P b core s h = stands-told-of P b core s (if_live s b.received) (if_live s b.given) (λ n e.
    let on : lives s n ≡ true = live-first n (StandsFor (around b s)) 0 core.table s.connections h.connections e in
    (ap (λ x. cond x (b.received n) []) on, ap (λ x. cond x (b.given n) []) on)) h

-- nothing of one that doesn't live
pub only-blank : (s : State) (b : Beside) (n : ℕ) → lives s n ≡ false → IsBlank n (only_live s b)
only-blank s b n off = (ap (λ x. cond x (b.received n) []) off, ap (λ x. cond x (b.given n) []) off)

abbrev pub RestsAt : Beside → ℕ → Type 0
RestsAt b n = (b.given n ≡ (inbox_of (b.received n)).messages) × ((inbox_of (b.received n)).bad ≡ None)

pub rests-only : (s : State) (b : Beside) → ((n : ℕ) → lives s n ≡ true → RestsAt b n) → Rests (only_live s b)
rests-only s b rests n = by (lives s n) refl
  where
    by : (x : Bool) → lives s n ≡ x → (cond x (b.given n) [] ≡ (inbox_of (cond x (b.received n) [])).messages) × ((inbox_of (cond x (b.received n) [])).bad ≡ None)
    by true e = rests n e
    by false e = (refl, refl)

-- ---- how many bytes were given

pub given-only : (P : State → Type 0) (b : Beside) (core : ServerCore) (s : State) (n : ℕ) → StandsWhere P b core s → given_by core n ≡ length ((only_live s b).received n)
given-only P b core s n h = by (find (is_of n) core.table) (find (has_serial n) s.connections) refl (are-found (around b s) (is_of n) (has_serial n) (λ k c r. ap (λ m. m == n) r.serial) core.table s.connections h.connections)
  where
    equal : (m n : ℕ) → (m == n) ≡ true → m ≡ n
    equal m n h = grind (arith, h)

    at : (k : kept.Connection) (c : Connection) → StandsFor (around b s) k c → c.serial ≡ n → (x : Bool) → is_parting c.phase ≡ x → (if x then 0 else k.reader.total) ≡ length (cond (not x) (b.received n) [])
    at k c r is true e = refl
    at k c r is false e = let on : is_live c ≡ true = ap not e in (r.reader on).total ∙ (ap length (r.heard on) ∙ ap (λ m. length (b.received m)) is)

    by : (o : Option kept.Connection) (p : Option Connection) → find (has_serial n) s.connections ≡ p → FoundPair (StandsFor (around b s)) o p → option_map_or given_to o 0 ≡ length (cond (option_map_or is_live p false) (b.received n) [])
    by None None e f = refl
    by None (Some c) e f = absurd f
    by (Some k) None e f = absurd f
    by (Some k) (Some c) e f = ap (λ p. if is_parting p then 0 else k.reader.total) f.phase ∙ at k c f (equal c.serial n (found-passes (has_serial n) s.connections c e)) (is_parting c.phase) refl

pub fewer-only : (s : State) (b : Beside) (n : ℕ) → length ((only_live s b).received n) ≤ length (b.received n)
fewer-only s b n = by (lives s n)
  where
    by : (x : Bool) → length (cond x (b.received n) []) ≤ length (b.received n)
    by true = omega arith
    by false = omega arith

-- no rule of which no state is told more gives more bytes
pub given-leads : (old new : ServerCore) (rule : State → State) → Leads old new rule → (b : Beside) (s : State) → Stands b old s → (n : ℕ) → given_by new n ≤ given_by old n
given-leads old new rule leads b s h n =
    let there = λ (t : State). IsThere t t.active in
    let before : Stands (only_live s b) old s = stands-only there b old s h in
    let after : Stands (only_live s b) new (rule s) = leads (only_live s b) s before in
    let was = given-only there b old s n h in
    let now = given-only there (only_live s b) new (rule s) n after in
    let fewer = fewer-only (rule s) (only_live s b) n in
    omega arith
