-- Between happenings no connection lives whose queue lacks a frame.
use Rattle.std.specs.Prelude.{◌≡◌, refl, ℕ, zero, suc, ◌+◌, ◌≤◌, nat_le, Bool, true, false, not, ◌&&◌, ◌||◌, cond, List, [], ◌∷◌, ◌++◌, length, drop, filter, Option, Some, None}
use Rattle.std.specs.List.{list_any, find}
use Rattle.std.proofs.Common.{arith, ap, ◌∙◌}
use Rattle.std.proofs.lemmas.Bool.{or_parts}
use Rattle.share_base.proofs.ListTests.{any_none, none_of_find}
use Rattle.hello_states.specs.declared.part_cause.PartCause.{PartCause}
use Rattle.hello_states.specs.declared.part_cause.PartCause.TheVariants as cause
use Rattle.message_codec.specs.declared.messages.Msg.{Msg}
use Rattle.machine.specs.Scripts.{Line}
use Rattle.machine.specs.Targets.{Client, Entry}
use Rattle.machine.specs.Connections.{Connection, has_serial, is_live, changed, serials}
use Rattle.machine.specs.States.{State}
use Rattle.machine.specs.Combining.{when, choose, for_some, for_each, times, unchanged}
use Rattle.machine.specs.Screens.{connection, phase_of, lives, change}
use Rattle.machine.specs.Queues.{is_slow}
use Rattle.machine.specs.Partings.{lose, marked, screen_joined, part}
use Rattle.machine.specs.Slow.{is_too_slow, first_slow, part_first_slow, part_slow}
use Rattle.machine.specs.GateCalls.{waiting}
use Rattle.machine.specs.Running.{does, past, run_line, run_ahead, may_run}
use Rattle.machine.specs.Timers.{clock, timer, timers, try, has_died, was_silent, owes_beat, beat, deaths, silences, beats, gate_timer, after_timers}
use Rattle.message_codec.specs.Inboxes.{Inbox}
use Rattle.machine.specs.Hearing.{hear, hear_in}
use Rattle.machine.specs.Steps.{inbox_of, received_by, receives, judge, hear_piece, got, drops, breaks, close, moment}
use Rattle.machine.proofs.Rules.{when-keeps, choose-keeps, for_some-keeps, for_each-keeps, times-keeps}
use Rattle.machine.proofs.Finding.{none_some}
use Rattle.machine.proofs.Live.{IsLive, IsSteady, tested-live}
use Rattle.machine.proofs.Invariant.{On}
use Rattle.machine.proofs.KeepPartings.{marked-off, lose-keeps, slow-live}
use Rattle.machine.proofs.KeepSteps.{receives-steady}
use Rattle.machine.proofs.FewLive.{live_count, count-upto, FewLive, parted-fewer}
use Rattle.machine.proofs.FewLive as few

abbrev pub NoneSlow : State → Type 0
NoneSlow s = list_any (is_too_slow s) s.connections ≡ false

-- ---- parting one after another

find_none : {X : Type 0} (test : X → Bool) (xs : List X) → find test xs ≡ None → list_any test xs ≡ false
find_none test xs h = any_none test xs (none_of_find test xs h)

none_find : {X : Type 0} (test : X → Bool) (xs : List X) (x : X) → list_any test xs ≡ false → find test xs ≡ Some x → ⊥
none_find test [] y h e = none_some y e
none_find {X} test (x ∷ xs) y h e = by (test x) h e (none_find test xs y)
  where
    by : (b : Bool) → (b || list_any test xs) ≡ false → cond b (Some x) (find test xs) ≡ Some y → (list_any test xs ≡ false → find test xs ≡ Some y → ⊥) → ⊥
    by true h e later = grind (arith, h)
    by false h e later = later h e

none_live : (test : Connection → Bool) (cs : List Connection) → live_count cs ≤ 0 → list_any (λ c. is_live c && test c) cs ≡ false
unfolding live_count
none_live test [] h = refl
none_live test (c ∷ cs) h = by (is_live c) h (none_live test cs)
  where
    by : (b : Bool) → cond b 1 0 + live_count cs ≤ 0 → (live_count cs ≤ 0 → list_any (λ c. is_live c && test c) cs ≡ false) → ((b && test c) || list_any (λ c. is_live c && test c) cs) ≡ false
    by true h later = absurd (omega arith)
    by false h later = later (omega arith)

first-fewer : (n : ℕ) (s : State) (c : Connection) → first_slow s ≡ Some c → live_count s.connections ≤ suc n → live_count (part cause.Slow c.serial s).connections ≤ n
first-fewer n s c f h =
    let on : IsLive s.connections (Client c.serial) = tested-live (is_too_slow s) s.connections c f (slow-live s c f) in
    let less = parted-fewer c.serial cause.Slow s.at s.connections on in
    let after : live_count (marked cause.Slow c.serial s).connections ≤ n = omega arith in
    for_some-keeps (On (FewLive n)) (screen_joined s c.serial) (lose c.serial) unchanged (marked cause.Slow c.serial s) (λ screen e. lose-keeps (few.invariant n) c.serial screen (marked cause.Slow c.serial s) (marked-off cause.Slow c.serial s) after) after

stays-none : (s : State) → NoneSlow s → NoneSlow (part_first_slow s)
stays-none s h = for_some-keeps NoneSlow (first_slow s) (λ c. part cause.Slow c.serial) unchanged s (λ c f. absurd (none_find (is_too_slow s) s.connections c h f)) h

drained : (n : ℕ) (s : State) → live_count s.connections ≤ n → NoneSlow (times n part_first_slow s)
drained zero s h = none_live (λ c. is_slow s.routed c.serial) s.connections h
drained (suc n) s h = by (first_slow s) refl (λ t k. drained n t k)
  where
    by : (o : Option Connection) → first_slow s ≡ o → ((t : State) → live_count t.connections ≤ n → NoneSlow (times n part_first_slow t)) → NoneSlow (times n part_first_slow (for_some o (λ c. part cause.Slow c.serial) unchanged s))
    by None e later = times-keeps NoneSlow n part_first_slow stays-none s (find_none (is_too_slow s) s.connections e)
    by (Some c) e later = later (part cause.Slow c.serial s) (first-fewer n s c e h)

pub part_slow-none : (s : State) → NoneSlow (part_slow s)
part_slow-none s = drained (length s.connections) s (count-upto s.connections)

-- ---- rules that end with that

pub hear-none : (serial : ℕ) (m : Msg) (s : State) → NoneSlow (hear serial m s)
hear-none serial m s = part_slow-none (hear_in (phase_of s serial) m serial s)

timers-none : (has_come : State → Connection → Bool) (rule : ℕ → State → State) (s : State) → NoneSlow s → NoneSlow (timers has_come rule s)
timers-none has_come rule s h = for_each-keeps NoneSlow (serials s.connections) (timer has_come rule) (λ serial t k. for_some-keeps NoneSlow (connection t serial) (λ c. when (has_come t c) (λ u. part_slow (rule serial u))) unchanged t (λ c e. when-keeps NoneSlow (has_come t c) (λ u. part_slow (rule serial u)) (λ u i. part_slow-none (rule serial u)) t k) k) s h

gate_timer-none : (s : State) → NoneSlow s → NoneSlow (gate_timer s)
gate_timer-none s h = for_some-keeps NoneSlow (waiting s) (λ w. when (nat_le w.due s.at) (λ t. part_slow (try w t))) unchanged s (λ w e. when-keeps NoneSlow (nat_le w.due s.at) (λ t. part_slow (try w t)) (λ t i. part_slow-none (try w t)) s h) h

run_ahead-none : (lines : List Line) (s : State) → NoneSlow s → NoneSlow (run_ahead lines s)
run_ahead-none [] s h = h
run_ahead-none (l ∷ ahead) s h = choose-keeps NoneSlow (may_run s l) (λ t. run_ahead ahead (run_line l ahead t)) unchanged s (λ e. run_ahead-none ahead (run_line l ahead s) (part_slow-none (does s.ran l (past ahead s)))) (λ e. h)

pub moment-none : (t : ℕ) (s : State) → NoneSlow s → NoneSlow (moment t s)
moment-none t s h =
    let a = timers-none has_died (part cause.Dead) (clock t s) h in
    let b = timers-none was_silent (part cause.Silent) (deaths (clock t s)) a in
    let c = timers-none owes_beat beat (silences (deaths (clock t s))) b in
    let after : State = after_timers t s in
    run_ahead-none after.lines after (gate_timer-none (beats (silences (deaths (clock t s)))) c)

-- ---- changes at a connection that or_parts part it nor tell it anything

steady_none : (routed : List Entry) (serial : ℕ) (f : Connection → Connection) → IsSteady f → (cs : List Connection) → list_any (λ c. is_live c && is_slow routed c.serial) (changed serial f cs) ≡ list_any (λ c. is_live c && is_slow routed c.serial) cs
steady_none routed serial f steady [] = refl
steady_none routed serial f steady (c ∷ cs) = both_same (has_serial serial c) (steady_none routed serial f steady cs)
  where
    both_same : (b : Bool) → list_any (λ c. is_live c && is_slow routed c.serial) (changed serial f cs) ≡ list_any (λ c. is_live c && is_slow routed c.serial) cs → ((is_live (when b f c) && is_slow routed (when b f c).serial) || list_any (λ c. is_live c && is_slow routed c.serial) (changed serial f cs)) ≡ ((is_live c && is_slow routed c.serial) || list_any (λ c. is_live c && is_slow routed c.serial) cs)
    both_same true rest =
        let live : is_live (f c) ≡ is_live c = (steady c).1 in
        let slow : is_slow routed (f c).serial ≡ is_slow routed c.serial = ap (is_slow routed) (steady c).0 in
        cc
    both_same false rest = cc

pub change-none : (serial : ℕ) (f : Connection → Connection) → IsSteady f → (s : State) → NoneSlow s → NoneSlow (change serial f s)
change-none serial f steady s h = steady_none s.routed serial f steady s.connections ∙ h

fewer_none : (test keep : Connection → Bool) (cs : List Connection) → list_any test cs ≡ false → list_any test (filter keep cs) ≡ false
fewer_none test keep [] h = refl
fewer_none test keep (c ∷ cs) h = let parts = or_parts (test c) (list_any test cs) h in by (keep c) parts.0 (fewer_none test keep cs parts.1)
  where
    by : (b : Bool) → test c ≡ false → list_any test (filter keep cs) ≡ false → list_any test (cond b (c ∷ filter keep cs) (filter keep cs)) ≡ false
    by true here rest = grind (arith, here, rest)
    by false here rest = rest

pub close-none : (serial : ℕ) (s : State) → NoneSlow s → NoneSlow (close serial s)
close-none serial s h = fewer_none (is_too_slow s) (λ c. not (has_serial serial c)) s.connections h

-- ---- bytes and ends

pub got-none : (serial : ℕ) (piece : List ℕ) (s : State) → NoneSlow s → NoneSlow (got serial piece s)
got-none serial piece s h = when-keeps NoneSlow (lives s serial) (hear_piece serial piece) heard s h
  where
    judged : (box : Inbox) (s : State) → NoneSlow s → NoneSlow (judge serial box s)
    judged box s h = for_some-keeps NoneSlow box.bad (λ why. when (lives s serial) (λ t. part_slow (part (cause.Bad box.place why) serial t))) unchanged s (λ why e. when-keeps NoneSlow (lives s serial) (λ t. part_slow (part (cause.Bad box.place why) serial t)) (λ t i. part_slow-none (part (cause.Bad box.place why) serial t)) s h) h

    heard : (s : State) → NoneSlow s → NoneSlow (hear_piece serial piece s)
    heard s h =
        let old = inbox_of (received_by s serial) in
        let new = inbox_of (received_by s serial ++ piece) in
        let added = drop (length old.messages) new.messages in
        let there : State = change serial (receives piece) s in
        judged new (for_each added (hear serial) there) (for_each-keeps NoneSlow added (hear serial) (λ m t k. hear-none serial m t) there (change-none serial (receives piece) (receives-steady piece) s h))

pub breaks-none : (why : PartCause) (serial : ℕ) (s : State) → NoneSlow (breaks why serial s)
breaks-none why serial s = part_slow-none (choose (lives s serial) (part why serial) (change serial drops) s)
