-- A server that heard a piece of a connection's bytes is in the state after it.
use Rattle.std.specs.Prelude.{◌≡◌, refl, ℕ, ◌+◌, ◌≤◌, ◌<◌, ◌==◌, Bool, true, false, not, cond, List, [], ◌++◌, length, drop, Option, Some, None, IfSome, unwrap_or, if◌then◌else◌}
use Rattle.std.specs.List.{find}
use Rattle.std.specs.Option.{option_map, option_map_or}
use Rattle.std.proofs.Common.{arith, sym, ap, ◌∙◌, subst}
use Rattle.std.proofs.lemmas.List.{drop_at, length-append}
use Rattle.share_base.specs.declared.reason.Reason.{Reason}
use Rattle.message_codec.specs.declared.messages.Msg.{Msg}
use Rattle.message_codec.specs.Inboxes.{Inbox}
use Rattle.message_codec.proofs.InboxVerdicts.{inbox-verdict}
use Rattle.message_reader.specs.declared.reader.BadFrame.{BadFrame}
use Rattle.message_reader.specs.Roles.{server}
use Rattle.hello_states.specs.Phases.{is_parting}
use Rattle.machine.specs.Connections.{Connection, is_live}
use Rattle.machine.specs.States.{State}
use Rattle.machine.specs.Combining.{when, for_each}
use Rattle.machine.specs.Screens.{lives, change}
use Rattle.machine.specs.Hearing.{hear}
use Rattle.machine.specs.Steps.{inbox_of, received_by, receives, judge, hear_added, hear_piece, got}
use Rattle.connection_table.specs.declared.connection.Connection as kept
use Rattle.connection_table.specs.declared.reading.Reading.{Reading}
use Rattle.connection_table.specs.PhaseOf.{phase_of}
use Rattle.connection_table.specs.Tables.{is_of, ChangesAt}
use Rattle.connection_table.specs.Calls.{Reads}
use Rattle.connection_table.proofs.Readings.{appended, are-read, ComesTo, are-concluded}
use Rattle.server_core.specs.declared.server.ServerCore.{ServerCore}
use Rattle.server_core.specs.Targets.{IsThere}
use Rattle.server_core.specs.Standing.{Beside, around, Stands}
use Rattle.server_core.specs.Leading.{Leads}
use Rattle.server_core.specs.Serving.{Rests, Serves}
use Rattle.server_core.specs.Receiving.{given_to, given_by, more_at, bad_in}
use Rattle.server_core.proofs.Found.{some-read, none-read}
use Rattle.server_core.proofs.Open.{changed-open}
use Rattle.server_core.proofs.Besides.{with_told, only_live, RestsAt, stands-only, rests-only, given-only, fewer-only}
use Rattle.server_core.proofs.Gone.{judged-off}
use Prim.{search}

-- ---- the kept connection

-- it isn't parting
abbrev pub GoesOn : kept.Connection → Type 0
GoesOn k = not (is_parting (phase_of k.phase)) ≡ true

-- as many bytes may be read as the condition says
pub may-read : (core : ServerCore) (n count limit : ℕ) (k : kept.Connection) → Some k ≡ find (is_of n) core.table → GoesOn k → given_by core n + count < limit → IfSome (find (is_of n) core.table) (λ c. c.reader.total + count < limit)
may-read core n count limit k e on fits = subst (λ o. IfSome o (λ (c : kept.Connection). c.reader.total + count < limit)) e few
  where
    at : (x : Bool) → not x ≡ true → (if x then 0 else k.reader.total) + count < limit → k.reader.total + count < limit
    at true on h = absurd (let x : ⊥ = cc in x)
    at false on h = h

    few : k.reader.total + count < limit
    few = at (is_parting (phase_of k.phase)) on (subst (λ o. option_map_or given_to o 0 + count < limit) (sym e) fits)

live-read : (b : Beside) (core : ServerCore) (s : State) (n : ℕ) (k : kept.Connection) → Some k ≡ find (is_of n) core.table → GoesOn k → Stands b core s → true ≡ lives s n
live-read b core s n k e on h = some-read b core s n k true (λ o. option_map_or is_live o false) e h (λ c r. sym on ∙ ap (λ p. not (is_parting p)) r.phase)

received-read : (b : Beside) (core : ServerCore) (s : State) (n : ℕ) (k : kept.Connection) → Some k ≡ find (is_of n) core.table → k.serial ≡ n → GoesOn k → Stands b core s → b.received n ≡ received_by s n
received-read b core s n k e is on h = some-read b core s n k (b.received n) (λ o. unwrap_or (option_map (λ (c : Connection). c.received) o) []) e h (λ c r. ap b.received (sym is ∙ r.serial) ∙ sym (r.heard (sym (ap (λ p. not (is_parting p)) r.phase) ∙ on)))

-- ---- what the piece comes to

-- what is told beside the state after it
abbrev pub told_of : ℕ → List ℕ → Reading → Beside → Beside
told_of n piece reading b = with_told (appended n piece b.received) (appended n reading.messages.items b.given) b

stands-brought : (b : Beside) (core : ServerCore) (s : State) (n : ℕ) (piece : List ℕ) (reading : Reading) (table : List kept.Connection) → Stands b core s → ChangesAt n (Reads piece reading) core.table table → Stands (told_of n piece reading b) (record core { table = table }) (change n (receives piece) s)
stands-brought b core s n piece reading table h g = search (are-read (around b s) n piece reading core.table table s.connections h.connections g, changed-open n (receives piece) (λ c. refl) s.connections s.active h.there)

-- the inbox of all that came
box-messages : (stream : List ℕ) (messages : List Msg) (bad : Option BadFrame) → ComesTo stream messages bad → (inbox_of stream).messages ≡ messages
box-messages stream messages bad h = (inbox-verdict server stream h.bytes h.concludes.verdict).messages_are ∙ h.concludes.messages_are

box-bad : (stream : List ℕ) (messages : List Msg) (bad : Option BadFrame) → ComesTo stream messages bad → bad_in (inbox_of stream) ≡ bad
box-bad stream messages bad h =
    let v = h.concludes.verdict in
    let box = inbox-verdict server stream h.bytes v in
    ap (λ (n : ℕ). option_map (λ (why : Reason). record { place = n; reason = why }) (inbox_of stream).bad) box.place_is
    ∙ ap (λ (o : Option Reason). option_map (λ (why : Reason). record { place = v.place; reason = why }) o) box.bad_is
    ∙ h.concludes.bad_is

-- the messages that the piece adds
left-of : (old new given messages : List Msg) → given ≡ old → new ≡ given ++ messages → drop (length old) new ≡ messages
left-of old new given messages same is = ap (λ (ms : List Msg). drop (length old) ms) is ∙ drop_at given messages (length old) (ap length same)

got-is : (s : State) (n : ℕ) (piece bytes : List ℕ) (messages : List Msg) → lives s n ≡ true → bytes ≡ received_by s n → drop (length (inbox_of bytes).messages) (inbox_of (bytes ++ piece)).messages ≡ messages → got n piece s ≡ judge n (inbox_of (bytes ++ piece)) (for_each messages (hear n) (change n (receives piece) s))
got-is s n piece bytes messages on same left =
    ap (λ x. when x (hear_piece n piece) s) on
    ∙ ap (λ xs. hear_added n (inbox_of xs) (inbox_of (xs ++ piece)) (change n (receives piece) s)) (sym same)
    ∙ ap (λ ms. judge n (inbox_of (bytes ++ piece)) (for_each ms (hear n) (change n (receives piece) s))) left

-- ---- between two happenings

-- a server that heard it
pub record Came (b : Beside) (new : ServerCore) (s : State) (n : ℕ) (piece : List ℕ) : Type 0 where
  pub beside : Beside
  pub front_is : beside.front ≡ b.front
  pub rests : Rests beside
  pub stands : Stands beside new s
  pub grows : (m : ℕ) → given_by new m ≤ length (b.received m) + more_at n (length piece) m

-- all that came at a serial was heard, where it lives
rests_after : (b : Beside) (s : State) (n : ℕ) (piece : List ℕ) (reading : Reading) → Rests b → ComesTo (b.received n ++ piece) (b.given n ++ reading.messages.items) reading.bad → (m : ℕ) → lives (judge n (inbox_of (b.received n ++ piece)) s) m ≡ true → RestsAt (told_of n piece reading b) m
rests_after b s n piece reading rests came m on = by (m == n) refl
  where
    box : Inbox
    box = inbox_of (b.received n ++ piece)

    fine : (o : Option Reason) → box.bad ≡ o → lives (judge n box s) n ≡ true → o ≡ None
    fine None e live = refl
    fine (Some why) e live = absurd (judged-off n box why s e live)

    at : m ≡ n → RestsAt (with_told (λ i. b.received i ++ piece) (λ i. b.given i ++ reading.messages.items) b) m
    at is =
        let live : lives (judge n box s) n ≡ true = subst (λ i. lives (judge n box s) i ≡ true) is on in
        subst (λ i. RestsAt (with_told (λ j. b.received j ++ piece) (λ j. b.given j ++ reading.messages.items) b) i) (sym is)
        (sym (box-messages (b.received n ++ piece) (b.given n ++ reading.messages.items) reading.bad came), fine box.bad refl live)

    by : (x : Bool) → (m == n) ≡ x → (cond x (b.given m ++ reading.messages.items) (b.given m) ≡ (inbox_of (cond x (b.received m ++ piece) (b.received m))).messages) × ((inbox_of (cond x (b.received m ++ piece) (b.received m))).bad ≡ None)
    by true e = at (let is : m ≡ n = grind (arith, e) in is)
    by false e = rests m

longer : (b : Beside) (n : ℕ) (piece : List ℕ) (reading : Reading) (m : ℕ) → length ((told_of n piece reading b).received m) ≤ length (b.received m) + more_at n (length piece) m
longer b n piece reading m = by (m == n)
  where
    by : (x : Bool) → length (cond x (b.received m ++ piece) (b.received m)) ≤ length (b.received m) + (if x then length piece else 0)
    by true = let both = length-append (b.received m) piece in omega arith
    by false = omega arith

pub came : (b : Beside) (old heard new : ServerCore) (s : State) (n : ℕ) (piece : List ℕ) (reading : Reading) (k : kept.Connection) (table : List kept.Connection) → Some k ≡ find (is_of n) old.table → k.serial ≡ n → GoesOn k → ChangesAt n (Reads piece reading) old.table table → Leads (record old { table = table }) heard (for_each reading.messages.items (hear n)) → ((box : Inbox) → bad_in box ≡ reading.bad → Leads heard new (judge n box)) → Rests b → Stands b old s → Came b new (got n piece s) n piece
came b old heard new s n piece reading k table e is on g hears judges rests h =
    subst (λ t. Came b new t n piece) (sym same) (record {
      beside = only_live after c;
      front_is = refl;
      rests = rests-only after c (rests_after b between n piece reading rests comes);
      stands = stands-only there c new after at_end;
      grows = λ m.
          let now = given-only there c new after m at_end in
          let fewer = fewer-only after c m in
          let more = longer b n piece reading m in
          omega arith;
    })
  where
    there : State → Type 0
    there t = IsThere t t.active

    live : lives s n ≡ true
    live = sym (live-read b old s n k e on h)

    comes : ComesTo (b.received n ++ piece) (b.given n ++ reading.messages.items) reading.bad
    comes = are-concluded (around b s) n piece reading old.table table s.connections live h.connections g

    box : Inbox
    box = inbox_of (b.received n ++ piece)

    c : Beside
    c = told_of n piece reading b

    between : State
    between = for_each reading.messages.items (hear n) (change n (receives piece) s)

    after : State
    after = judge n box between

    same : got n piece s ≡ after
    same = got-is s n piece (b.received n) reading.messages.items live (received-read b old s n k e is on h) (left-of (inbox_of (b.received n)).messages box.messages (b.given n) reading.messages.items (rests n).0 (box-messages (b.received n ++ piece) (b.given n ++ reading.messages.items) reading.bad comes))

    at_end : Stands c new after
    at_end = judges box (box-bad (b.received n ++ piece) (b.given n ++ reading.messages.items) reading.bad comes) c between (hears c (change n (receives piece) s) (stands-brought b old s n piece reading table h g))

-- ---- where nothing is read

pub none-off : (b : Beside) (core : ServerCore) (s : State) (n : ℕ) → None ≡ find (is_of n) core.table → Stands b core s → lives s n ≡ false
none-off b core s n e h = ap (λ o. option_map_or is_live o false) (none-read b core s n e h)

pub parting-off : (b : Beside) (core : ServerCore) (s : State) (n : ℕ) (k : kept.Connection) → Some k ≡ find (is_of n) core.table → not (is_parting (phase_of k.phase)) ≡ false → Stands b core s → lives s n ≡ false
parting-off b core s n k e off h = sym (some-read b core s n k false (λ o. option_map_or is_live o false) e h (λ c r. sym off ∙ ap (λ p. not (is_parting p)) r.phase))

pub serves-still : (front : List ℕ) (core : ServerCore) (s : State) (n : ℕ) (piece : List ℕ) → lives s n ≡ false → Serves front core s → Serves front core (got n piece s)
serves-still front core s n piece off h = subst (λ t. Serves front core t) (sym (ap (λ x. when x (hear_piece n piece) s) off)) h

-- ---- the call

pub serves-came : (front : List ℕ) (b : Beside) (new : ServerCore) (s : State) (n : ℕ) (piece : List ℕ) → b.front ≡ front → Came b new s n piece → Serves front new s
serves-came front b new s n piece is h = record { beside = h.beside; front_is = h.front_is ∙ is; rests = h.rests; stands = h.stands }

-- of connections that don't live nothing need be told
pub told-less : (front : List ℕ) (core : ServerCore) (s : State) → (h : Serves front core s) → Rests (only_live s h.beside) × Stands (only_live s h.beside) core s
told-less front core s h = (rests-only s h.beside (λ n e. h.rests n), stands-only (λ t. IsThere t t.active) h.beside core s h.stands)

pub grows-came : (b : Beside) (old new : ServerCore) (s t : State) (n : ℕ) (piece : List ℕ) → Stands b old s → Came (only_live s b) new t n piece → (m : ℕ) → given_by new m ≤ given_by old m + more_at n (length piece) m
grows-came b old new s t n piece h came m =
    let was = given-only (λ u. IsThere u u.active) b old s m h in
    let now = came.grows m in
    omega arith
