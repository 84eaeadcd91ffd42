-- A connection has taken no more bytes than are queued for it.
use Rattle.std.specs.Prelude.{◌≡◌, refl, ℕ, ◌+◌, ◌<◌, ◌≤◌, Bool, true, false, ◌==◌, cond, List, [], ◌∷◌, ◌++◌, length, unwrap_or, Option, Some, None}
use Rattle.std.specs.List.{list_all}
use Rattle.std.specs.Option.{option_map}
use Rattle.std.proofs.Common.{arith, ap, sym, subst, ◌∙◌}
use Rattle.std.proofs.lemmas.Bool.{and_parts}
use Rattle.std.proofs.lemmas.Bool.Decides.{nat_tests}
use Rattle.std.proofs.lemmas.List.{append-nil, length-append}
use Rattle.hello_states.specs.declared.part_cause.PartCause.TheVariants as cause
use Rattle.machine.specs.Targets.{Entry}
use Rattle.machine.specs.Connections.{Connection, fresh, has_serial, with_serial}
use Rattle.machine.specs.States.{State}
use Rattle.machine.specs.Screens.{connection, taken_by}
use Rattle.machine.specs.Queues.{queue}
use Rattle.machine.specs.Happenings.{Happening, Joined, Got, Ended, Failed, Took, Moment, Closed, IsAllowed}
use Rattle.machine.specs.Steps.{step}
use Rattle.machine.proofs.Invariant.{On}
use Rattle.machine.proofs.BelowLatest.{BelowLatest, connection_upto}
use Rattle.machine.proofs.KeepSteps.{got-keeps, breaks-keeps, moment-keeps}
use Rattle.machine.proofs.GrowingQueues.{queue-grows}
use Rattle.machine.proofs.TakenStays.{HasTaken, took-stays, removed-stays, appended-stays}
use Rattle.machine.proofs.TakenStays as taken
use Rattle.machine.proofs.Runs.{accept-keeps}
use Rattle.reached_states.specs.OpenSerials.{TakenIsQueued}
use Rattle.reached_states.proofs.ReachedAll.{reached-all-below}
use Rattle.reached_states.proofs.GrowingLog.{told-step}

pub has-taken : (s : State) (n : ℕ) → HasTaken n (taken_by s n) s.connections
has-taken s n c e = sym (ap (λ (o : Option Connection). unwrap_or (option_map (λ (c : Connection). c.taken) o) 0) e)

taken_upto : (s : State) (n count : ℕ) → HasTaken n count s.connections → taken_by s n ≤ count
taken_upto s n count h = at (connection s n) refl
  where
    at : (o : Option Connection) → connection s n ≡ o → unwrap_or (option_map (λ (c : Connection). c.taken) o) 0 ≤ count
    at None e = omega arith
    at (Some c) e = let is : c.taken ≡ count = h c e in omega arith

absent : (latest n : ℕ) (cs : List Connection) → latest < n → list_all (connection_upto latest) cs ≡ true → with_serial n cs ≡ None
absent latest n [] above h = refl
absent latest n (c ∷ cs) above h =
    let parts = and_parts (connection_upto latest c) (list_all (connection_upto latest) cs) h in
    at (has_serial n c) (grind (arith, nat_tests, above, parts.0)) (absent latest n cs above parts.1)
  where
    at : (b : Bool) → b ≡ false → with_serial n cs ≡ None → cond b (Some c) (with_serial n cs) ≡ None
    at true e rest = absurd cc
    at false e rest = rest

queue_longer : (s : State) (h : Happening) (n : ℕ) → length (queue s.routed n) ≤ length (queue (step s h).routed n)
queue_longer s h n =
    let grew = told-step s.routed s h ([], sym (append-nil s.routed)) in
    let q = queue-grows n s.routed grew.0 in
    let is : queue (step s h).routed n ≡ queue s.routed n ++ q.0 = ap (λ (es : List Entry). queue es n) grew.1 ∙ q.1 in
    let long : length (queue (step s h).routed n) ≡ length (queue s.routed n) + length q.0 = ap length is ∙ length-append (queue s.routed n) q.0 in
    omega arith

abbrev IsQueued : State → ℕ → Type 0
IsQueued s n = taken_by s n ≤ length (queue s.routed n)

-- a happening by which nothing is taken
kept : (s : State) (h : Happening) (n : ℕ) → HasTaken n (taken_by s n) (step s h).connections → IsQueued s n → IsQueued (step s h) n
kept s h n stays q =
    let few = taken_upto (step s h) n (taken_by s n) stays in
    let long = queue_longer s h n in
    omega arith

-- the new connection has taken nothing
new_taken : (latest serial : ℕ) (s : State) (n : ℕ) → latest < serial → On (BelowLatest latest) s → has_serial n (fresh serial s.at) ≡ true → 0 ≡ taken_by s n
new_taken latest serial s n above below e =
    let is : serial ≡ n = grind (arith, nat_tests, e) in
    let none : connection s n ≡ None = absent latest n s.connections (omega arith) below.connections in
    sym (ap (λ (o : Option Connection). unwrap_or (option_map (λ (c : Connection). c.taken) o) 0) none)

more_taken : (s : State) (serial count n : ℕ) → taken_by s serial + count ≤ length (queue s.routed serial) → IsQueued s n → taken_by s n + cond (serial == n) count 0 ≤ length (queue s.routed n)
more_taken s serial count n a q = at (serial == n) refl
  where
    at : (b : Bool) → (serial == n) ≡ b → taken_by s n + cond b count 0 ≤ length (queue s.routed n)
    at true e = let is : serial ≡ n = grind (arith, nat_tests, e) in subst (λ (m : ℕ). taken_by s m + count ≤ length (queue s.routed m)) is a
    at false e = omega arith

queued_step : (latest : ℕ) (s : State) (h : Happening) → IsAllowed latest s h → On (BelowLatest latest) s → ((n : ℕ) → IsQueued s n) → (n : ℕ) → IsQueued (step s h) n
queued_step latest s (Joined serial) a below q n = kept s (Joined serial) n (accept-keeps (taken.invariant n (taken_by s n)) serial s (appended-stays n (taken_by s n) (fresh serial s.at) s.connections (new_taken latest serial s n a below) (has-taken s n))) (q n)
queued_step latest s (Got serial piece) a below q n = kept s (Got serial piece) n (got-keeps (taken.invariant n (taken_by s n)) serial piece s (has-taken s n)) (q n)
queued_step latest s (Ended serial) a below q n = kept s (Ended serial) n (breaks-keeps (taken.invariant n (taken_by s n)) cause.Ended serial s (has-taken s n)) (q n)
queued_step latest s (Failed serial) a below q n = kept s (Failed serial) n (breaks-keeps (taken.invariant n (taken_by s n)) cause.Failed serial s (has-taken s n)) (q n)
queued_step latest s (Took serial count) a below q n =
    let few = taken_upto (step s (Took serial count)) n (taken_by s n + cond (serial == n) count 0) (took-stays n (taken_by s n) serial count s.connections (has-taken s n)) in
    let more = more_taken s serial count n a.1 (q n) in
    omega arith
queued_step latest s (Moment t) a below q n = kept s (Moment t) n (moment-keeps (taken.invariant n (taken_by s n)) (λ m. refl) (λ m. refl) t s (has-taken s n)) (q n)
queued_step latest s (Closed serial) a below q n = kept s (Closed serial) n (removed-stays n (taken_by s n) serial s.connections (has-taken s n)) (q n)

pub taken-is-queued : TakenIsQueued
taken-is-queued o latest s serial r = reached-all-below (λ l t. (n : ℕ) → IsQueued t n) queued_step o latest s (λ n. omega arith) r serial
