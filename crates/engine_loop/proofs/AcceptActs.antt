-- An accept that was due, with each answer.
use Rattle.std.specs.Prelude.{◌≡◌, refl, ℕ, ◌+◌, ◌-◌, ◌<◌, Bool, true, false, ◌&&◌, nat_lt, cond, List, sum_by, Some}
use Rattle.std.proofs.Common.{arith, ap, sym, subst, ◌∙◌}
use Rattle.std.proofs.lemmas.Bool.Decides.{nat_tests}
use Rattle.hub_acts.specs.declared.act.Act.{Act}
use Rattle.hub_acts.specs.declared.act.Act.TheVariants as act
use Rattle.hub_acts.specs.declared.answers.AcceptAnswer.{AcceptAnswer}
use Rattle.hub_acts.specs.declared.answers.AcceptAnswer.TheVariants as accepted
use Rattle.hub_acts.specs.Counting.{open_with}
use Rattle.hub_acts.specs.Hubs.{HubState, HubCalls, FitsAccept}
use Rattle.machine.specs.Targets.{Entry}
use Rattle.machine.specs.Connections.{serials}
use Rattle.machine.specs.States.{State}
use Rattle.machine.specs.Queues.{total, size, fitting}
use Rattle.machine.specs.Readings.{accepts}
use Rattle.machine.specs.Happenings as machine
use Rattle.reached_states.specs.Reaching.{Origin, Reached}
use Rattle.reached_states.proofs.NewSerials.{new-is-untold}
use Rattle.attentive_acts.specs.Telling.{state_after}
use Rattle.attentive_acts.specs.Flags.{Flags, flags_with, is_listening}
use Rattle.attentive_acts.specs.Places.{Place, Accepts, at_accepts, at_reads, place_after, after_accept}
use Rattle.attentive_acts.specs.Judging.{Judge, Allows, AllowsAt, judge_after}
use Rattle.engine_loop.specs.declared.watch.Watch.{Watch}
use Rattle.server_engine.specs.Engines.{Steps, Reads as Reading}
use Rattle.engine_loop.specs.Watches.{flags_of, serials_in, AreSeen, Opens}
use Rattle.engine_loop.proofs.WatchFlags.{opens-flags, opens-serials, opens-seen}
use Rattle.engine_loop.specs.Stages.{Course, Stage, Cut, Is}
use Rattle.engine_loop.proofs.MoreActs.{Acted, IsTransitive, Moves, moves-by, moves-none, stage-more, cut-more, elsewhere}

-- ---- what is due

and_false : (b : Bool) → (b && false) ≡ false
and_false true = refl
and_false false = refl

-- where it isn't listening, reads follow
past : (fs : Flags) (s : State) (left : ℕ) → is_listening fs s ≡ false → at_accepts fs s left ≡ at_reads fs s (serials s.connections)
past fs s left e = ap (λ (b : Bool). cond (b && nat_lt 0 left) (Accepts left) (at_reads fs s (serials s.connections))) e

-- and where as many were accepted as may be
pub none-left : (fs : Flags) (s : State) → at_accepts fs s 0 ≡ at_reads fs s (serials s.connections)
none-left fs s = ap (λ (b : Bool). cond b (Accepts 0) (at_reads fs s (serials s.connections))) (and_false (is_listening fs s))

pub listening : (j : Judge) (watch : Watch) → j.flags ≡ flags_of (total j.state.routed) watch → watch.listens ≡ true → accepts j.state ≡ true → is_listening j.flags j.state ≡ true
listening j watch fs h k = ap (λ (f : Flags). f.listens && accepts j.state) fs ∙ ap (λ (b : Bool). b && accepts j.state) h ∙ k

pub not-listening : (j : Judge) (watch : Watch) → j.flags ≡ flags_of (total j.state.routed) watch → watch.listens ≡ false → is_listening j.flags j.state ≡ false
not-listening j watch fs h = ap (λ (f : Flags). f.listens && accepts j.state) fs ∙ ap (λ (b : Bool). b && accepts j.state) h

pub not-accepting : (j : Judge) → accepts j.state ≡ false → is_listening j.flags j.state ≡ false
not-accepting j h = ap (λ (b : Bool). j.flags.listens && b) h ∙ and_false j.flags.listens

pub pass-accept : {E H : Type 0} (serves : E → List ℕ → State → Type 0) (state : H → HubState) (leads : H → H → Type 0) (r : Course H) (core : E) (hub : H) (watch : Watch) (left : ℕ)
    → (st : Stage serves state leads r core hub watch (Is (λ fs s. at_accepts fs s left))) → is_listening st.judge.flags st.judge.state ≡ false
    → Stage serves state leads r core hub watch (Is (λ fs s. at_accepts fs s (left - 1)))
pass-accept serves state leads r core hub watch left st e =
    elsewhere serves state leads r core hub watch (Is (λ fs s. at_accepts fs s left)) (Is (λ fs s. at_accepts fs s (left - 1))) st
    (st.there ∙ past st.judge.flags st.judge.state left e ∙ sym (past st.judge.flags st.judge.state (left - 1) e))

here : (j : Judge) (left : ℕ) → 0 < left → j.place ≡ at_accepts j.flags j.state left → is_listening j.flags j.state ≡ true → j.place ≡ Accepts left
here j left some p e =
    let more : nat_lt 0 left ≡ true = grind (arith, nat_tests, some) in
    p ∙ ap (λ (b : Bool). cond (b && nat_lt 0 left) (Accepts left) (at_reads j.flags j.state (serials j.state.connections))) e
    ∙ ap (λ (b : Bool). cond b (Accepts left) (at_reads j.flags j.state (serials j.state.connections))) more

allowed : (j : Judge) (answer : AcceptAnswer) (left : ℕ) → 0 < left → j.place ≡ at_accepts j.flags j.state left → FitsAccept answer j.latest → is_listening j.flags j.state ≡ true → Allows j (act.Accept answer)
allowed j answer left some p fits is = subst (λ (q : Place). AllowsAt q j (act.Accept answer)) (sym (here j left some p is)) (fits, is)

-- what comes after the act, at its place
pub accept-more : {E H : Type 0} (serves : E → List ℕ → State → Type 0) (state : H → HubState) (leads : H → H → Type 0) (r : Course H) (core core' : E) (hub hub' : H) (watch watch' : Watch) (answer : AcceptAnswer) (left : ℕ) → 0 < left
    → IsTransitive leads → Acted state leads hub hub' (act.Accept answer)
    → (st : Stage serves state leads r core hub watch (Is (λ fs s. at_accepts fs s left)))
    → FitsAccept answer st.judge.latest → is_listening st.judge.flags st.judge.state ≡ true
    → flags_with (act.Accept answer) (flags_of (total st.judge.state.routed) watch) ≡ flags_of (total st.judge.state.routed) watch' → AreSeen (total st.judge.state.routed) watch'.streams.items → serials_in watch' ≡ open_with (act.Accept answer) (serials_in watch)
    → Moves r.origin st.judge.latest st.judge.state (act.Accept answer) → serves core' r.front (state_after (act.Accept answer) st.judge.state)
    → (let k : Judge = judge_after st.judge (act.Accept answer) in after_accept (act.Accept answer) left k.flags k.state ≡ at_accepts k.flags k.state (left - 1))
    → Stage serves state leads r core' hub' watch' (Is (λ fs s. at_accepts fs s (left - 1)))
accept-more serves state leads r core core' hub hub' watch watch' answer left some trans acted st fits is fs seen ws moves served next =
    let a : Act = act.Accept answer in
    let k : Judge = judge_after st.judge a in
    stage-more serves state leads r core core' hub hub' watch watch' (Is (λ f s. at_accepts f s left)) (Is (λ f s. at_accepts f s (left - 1))) a trans acted st fs seen ws moves
    (allowed st.judge answer left some st.there fits is) served (ap (λ (p : Place). place_after p a k.flags k.state) (here st.judge left some st.there is) ∙ next)

pub accept-cut : {E H : Type 0} (serves : E → List ℕ → State → Type 0) (state : H → HubState) (leads : H → H → Type 0) (r : Course H) (core : E) (hub hub' : H) (watch : Watch) (answer : AcceptAnswer) (left : ℕ) → 0 < left
    → IsTransitive leads → Acted state leads hub hub' (act.Accept answer)
    → (st : Stage serves state leads r core hub watch (Is (λ fs s. at_accepts fs s left)))
    → FitsAccept answer st.judge.latest → is_listening st.judge.flags st.judge.state ≡ true
    → Moves r.origin st.judge.latest st.judge.state (act.Accept answer)
    → Cut state leads r hub'
accept-cut serves state leads r core hub hub' watch answer left some trans acted st fits is moves =
    cut-more serves state leads r core hub hub' watch (Is (λ f s. at_accepts f s left)) (act.Accept answer) trans acted st moves (allowed st.judge answer left some st.there fits is)

-- ---- where the machine goes

pub none-queued : (o : Origin) (latest : ℕ) (s : State) (serial : ℕ) → Reached o latest s → serial ≡ latest + 1 → total s.routed serial ≡ 0
none-queued o latest s serial reached is = ap (λ (es : List Entry). sum_by size (fitting 0 es)) (new-is-untold o latest s serial reached (omega (arith, is))).untold

pub moves-joined : (o : Origin) (latest : ℕ) (s : State) (serial : ℕ) → Reached o latest s → serial ≡ latest + 1 → Moves o latest s (act.Accept (accepted.New serial))
moves-joined o latest s serial reached is = moves-by o latest s (act.Accept (accepted.New serial)) (machine.Joined serial) refl refl refl reached (omega (arith, is))

-- ---- each answer

module _ {E H : Type 0} (serves : E → List ℕ → State → Type 0) (state : H → HubState) (leads : H → H → Type 0) (trans : IsTransitive leads) (r : Course H) (core core' : E) (hub hub' : H) (watch watch' : Watch) (listens : watch.listens ≡ true) (may : Reading serves core true accepts) (led : leads hub hub') (left : ℕ) (some : 0 < left) (st : Stage serves state leads r core hub watch (Is (λ fs s. at_accepts fs s left))) where
  is_now : is_listening st.judge.flags st.judge.state ≡ true
  is_now = listening st.judge watch st.flags listens (sym (may r.origin st.judge.latest r.front st.judge.state st.reached st.served))

  next_is : (serial : ℕ) → FitsAccept (accepted.New serial) (state hub).latest → serial ≡ st.judge.latest + 1
  next_is serial fits = fits ∙ ap (λ (n : ℕ). n + 1) (sym st.latest)

  pub new-accepts : (serial : ℕ) → FitsAccept (accepted.New serial) (state hub).latest → HubCalls (Some (act.Accept (accepted.New serial))) (state hub) (state hub') → Opens watch watch' serial → Steps serves core core' (machine.Joined serial)
      → Stage serves state leads r core' hub' watch' (Is (λ fs s. at_accepts fs s (left - 1)))
  new-accepts serial fits calls opens steps =
      let is : serial ≡ st.judge.latest + 1 = next_is serial fits in
      accept-more serves state leads r core core' hub hub' watch watch' (accepted.New serial) left some trans (record { calls = calls; led = led; calm = refl; goes = refl; answered = refl }) st is is_now
      (sym (opens-flags watch watch' serial (total st.judge.state.routed) opens (none-queued r.origin st.judge.latest st.judge.state serial st.reached is))) (opens-seen watch watch' serial (total st.judge.state.routed) opens st.seen) (opens-serials watch watch' serial opens)
      (moves-joined r.origin st.judge.latest st.judge.state serial st.reached is)
      (steps r.origin st.judge.latest r.front st.judge.state st.reached (omega (arith, is)) st.served) refl

  pub new-cuts : (serial : ℕ) → FitsAccept (accepted.New serial) (state hub).latest → HubCalls (Some (act.Accept (accepted.New serial))) (state hub) (state hub') → Cut state leads r hub'
  new-cuts serial fits calls =
      let is : serial ≡ st.judge.latest + 1 = next_is serial fits in
      accept-cut serves state leads r core hub hub' watch (accepted.New serial) left some trans (record { calls = calls; led = led; calm = refl; goes = refl; answered = refl }) st is is_now
      (moves-joined r.origin st.judge.latest st.judge.state serial st.reached is)

  pub none-accepts : HubCalls (Some (act.Accept accepted.NotNow)) (state hub) (state hub') → watch' ≡ record { listens = false; streams = watch.streams }
      → Stage serves state leads r core hub' watch' (Is (λ fs s. at_accepts fs s (left - 1)))
  none-accepts calls is = accept-more serves state leads r core core hub hub' watch watch' accepted.NotNow left some trans (record { calls = calls; led = led; calm = refl; goes = refl; answered = refl }) st tt is_now
      (ap (flags_of (total st.judge.state.routed)) (sym is)) (subst (λ (w : Watch). AreSeen (total st.judge.state.routed) w.streams.items) (sym is) st.seen) (ap serials_in is) (moves-none r.origin st.judge.latest st.judge.state (act.Accept accepted.NotNow) refl refl refl st.reached) st.served refl

  pub failed-accepts : HubCalls (Some (act.Accept accepted.Failed)) (state hub) (state hub') → watch' ≡ record { listens = false; streams = watch.streams }
      → Stage serves state leads r core hub' watch' (Is (λ fs s. at_accepts fs s (left - 1)))
  failed-accepts calls is = accept-more serves state leads r core core hub hub' watch watch' accepted.Failed left some trans (record { calls = calls; led = led; calm = refl; goes = refl; answered = refl }) st tt is_now
      (ap (flags_of (total st.judge.state.routed)) (sym is)) (subst (λ (w : Watch). AreSeen (total st.judge.state.routed) w.streams.items) (sym is) st.seen) (ap serials_in is) (moves-none r.origin st.judge.latest st.judge.state (act.Accept accepted.Failed) refl refl refl st.reached) st.served refl
