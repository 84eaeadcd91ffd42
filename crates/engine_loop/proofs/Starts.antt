-- How the turns begin, and go on.
use Rattle.std.specs.Prelude.{◌≡◌, refl, ℕ, ◌+◌, ◌<◌, Bool, true, false, List, [], map, Err}
use Rattle.std.proofs.Common.{arith, ap, sym, subst, ◌∙◌}
use Rattle.share_base.specs.Writing.{SinkState}
use Rattle.share_base.proofs.ToldLists.{after-nil}
use Rattle.hub_acts.specs.Hubs.{HubState}
use Rattle.machine.specs.States.{State}
use Rattle.machine.specs.Queues.{total}
use Rattle.reached_states.specs.Reaching.{Origin, start_of}
use Rattle.attentive_acts.specs.Flags.{Flags, first_flags}
use Rattle.attentive_acts.specs.Judging.{first_judge}
use Rattle.engine_loop.specs.declared.serve_end.ServeEnd.{ServeEnd}
use Rattle.engine_loop.specs.declared.serve_end.ServeEnd.TheVariants as ends
use Rattle.engine_loop.specs.declared.watch.Stream.{Stream}
use Rattle.engine_loop.specs.declared.watch.Watch.{Watch}
use Rattle.engine_loop.specs.Watches.{flags_of, AreSeen, flag_of, serial_of}
use Rattle.engine_loop.specs.Stages.{Course, GoesWell, IsWaiting}
use Rattle.engine_loop.specs.Turns.{Logged, Ended, AfterTurn, waited_once}
use Rattle.engine_loop.specs.Ends.{AfterTurns}
use Rattle.engine_loop.specs.Serving.{IsNewHub}
use Rattle.engine_loop.proofs.Departs.{made-none}

-- a course, so many waits on
abbrev pub after_waits : {H : Type 0} → ℕ → Course H → Course H
after_waits n r = record r { waits = n; failed = false; ready = true }

pub no-waits : {E H : Type 0} (serves : E → List ℕ → State → Type 0) (state : H → HubState) (leads : H → H → Type 0) (r : Course H) (core : E) (hub : H) (watch : Watch) (old new : SinkState)
    → GoesWell r → r.waits ≡ 0 → Logged serves state leads r core hub watch old new IsWaiting → Logged serves state leads (after_waits 0 r) core hub watch old new IsWaiting
no-waits serves state leads r core hub watch old new calm none l =
    let one : Logged serves state leads (record r { waits = 0 }) core hub watch old new IsWaiting =
    subst (λ (n : ℕ). Logged serves state leads (record r { waits = n }) core hub watch old new IsWaiting) none l in
    let two : Logged serves state leads (record r { waits = 0; failed = false }) core hub watch old new IsWaiting =
    subst (λ (b : Bool). Logged serves state leads (record r { waits = 0; failed = b }) core hub watch old new IsWaiting) calm.0 one in
    subst (λ (b : Bool). Logged serves state leads (record r { waits = 0; failed = false; ready = b }) core hub watch old new IsWaiting) calm.1 two

calm-again : {E H : Type 0} (serves : E → List ℕ → State → Type 0) (state : H → HubState) (leads : H → H → Type 0) (r : Course H) (n : ℕ) (end : ServeEnd) (core : E) (hub : H) (watch : Watch) (old new : SinkState)
    → GoesWell r → Ended serves state leads (after_waits n r) end core hub watch old new → Ended serves state leads (record r { waits = n }) end core hub watch old new
calm-again serves state leads r n end core hub watch old new calm h =
    let one : Ended serves state leads (record r { waits = n; failed = false }) end core hub watch old new =
    subst (λ (b : Bool). Ended serves state leads (record r { waits = n; failed = false; ready = b }) end core hub watch old new) (sym calm.1) h in
    subst (λ (b : Bool). Ended serves state leads (record r { waits = n; failed = b }) end core hub watch old new) (sym calm.0) one

-- a turn was the last one
pub turn-ends : {E H : Type 0} (serves : E → List ℕ → State → Type 0) (state : H → HubState) (leads : H → H → Type 0) (r : Course H) (n turns : ℕ) (end : ServeEnd) (core : E) (hub : H) (watch : Watch) (old new : SinkState)
    → GoesWell r → n < turns → AfterTurn serves state leads (waited_once false (after_waits n r)) (Err end) core hub watch old new IsWaiting
    → AfterTurns serves state leads r turns end core hub watch old new
turn-ends serves state leads r n turns ends.Quit core hub watch old new calm lt h = (n + 1, omega (arith, lt), calm-again serves state leads r (n + 1) ends.Quit core hub watch old new calm h)
turn-ends serves state leads r n turns ends.Over core hub watch old new calm lt h = (n + 1, omega (arith, lt), calm-again serves state leads r (n + 1) ends.Over core hub watch old new calm h)
turn-ends serves state leads r n turns ends.HubFault core hub watch old new calm lt h = (n + 1, omega (arith, lt), calm-again serves state leads r (n + 1) ends.HubFault core hub watch old new calm h)
turn-ends serves state leads r n turns ends.WriteFault core hub watch old new calm lt h = (n + 1, omega (arith, lt), calm-again serves state leads r (n + 1) ends.WriteFault core hub watch old new calm h)
turn-ends serves state leads r n turns ends.OutOfMemory core hub watch old new calm lt h = (n + 1, omega (arith, lt), calm-again serves state leads r (n + 1) ends.OutOfMemory core hub watch old new calm h)
turn-ends serves state leads r n turns ends.TurnsSpent core hub watch old new calm lt h = absurd h

-- all turns were made
pub turns-spent : {E H : Type 0} (serves : E → List ℕ → State → Type 0) (state : H → HubState) (leads : H → H → Type 0) (r : Course H) (n turns : ℕ) (core : E) (hub : H) (watch : Watch) (old new : SinkState)
    → GoesWell r → n ≡ turns → Logged serves state leads (after_waits n r) core hub watch old new IsWaiting
    → AfterTurns serves state leads r turns ends.TurnsSpent core hub watch old new
turns-spent serves state leads r n turns core hub watch old new calm e l =
    let spent = calm-again serves state leads r n ends.TurnsSpent core hub watch old new calm l in
    subst (λ (m : ℕ). Ended serves state leads (record r { waits = m }) ends.TurnsSpent core hub watch old new) e spent

-- ---- the start

abbrev pub first_course : {H : Type 0} → Origin → H → Course H
first_course o hub = record { origin = o; hub = hub; front = []; waits = 0; failed = false; ready = true }

pub starts : {E H : Type 0} (serves : E → List ℕ → State → Type 0) (state : H → HubState) (leads : H → H → Type 0) (stays : (h : H) → leads h h) (o : Origin) (core : E) (hub : H) (watch : Watch) (sink : SinkState)
    → IsNewHub (state hub) → serves core [] (start_of o) → watch.listens ≡ true → watch.streams.items ≡ []
    → Logged serves state leads (first_course o hub) core hub watch sink sink IsWaiting
starts serves state leads stays o core hub watch sink is_new served listens streams = record {
  front = [];
  stage = record {
    acts = [];
    judge = first_judge (start_of o);
    made = made-none (first_judge (start_of o)) (state hub);
    waits = refl;
    ready = refl;
    faults = refl;
    led = stays hub;
    latest = sym is_new.latest;
    flags = flags;
    seen = subst (AreSeen (total (start_of o).routed)) (sym streams) tt;
    watched = ap (λ (ts : List Stream). map serial_of ts) streams;
    reached = record { happenings = []; by = record { allowed = tt; state = refl; latest_is = refl } };
    served = served;
    wrote = refl;
    there = (refl, refl);
  };
  wrote = record { taken = sym (after-nil sink.taken); faults = refl };
}
  where
    totals : ℕ → ℕ
    totals = total (start_of o).routed

    with_streams : Bool → List Stream → Flags
    with_streams b ts = record { listens = b; streams = map (flag_of totals) ts }

    flags : first_flags ≡ flags_of totals watch
    flags = sym (ap (λ (b : Bool). with_streams b watch.streams.items) listens ∙ ap (with_streams true) streams)
