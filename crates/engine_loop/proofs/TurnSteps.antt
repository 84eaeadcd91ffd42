-- A step of a turn, with the log that is written after it.
use Rattle.std.specs.Prelude.{◌≡◌, ℕ, Bool, true, false, cond, List, [], ◌++◌, length, Option, Result, Ok, Err, IsErrAnd}
use Rattle.std.proofs.Common.{arith, ap, sym, subst, ◌∙◌}
use Rattle.std.proofs.lemmas.List.{take_all}
use Rattle.share_base.specs.declared.out_of_memory.OutOfMemory.{OutOfMemory}
use Rattle.share_base.specs.Counts.{Rises}
use Rattle.share_base.specs.Told.{after}
use Rattle.share_base.specs.Writing.{SinkState}
use Rattle.share_base.proofs.ToldLists.{after-after}
use Rattle.hub_acts.specs.declared.act.Act.{Act}
use Rattle.hub_acts.specs.Counting.{Counts}
use Rattle.hub_acts.specs.Hubs.{HubState}
use Rattle.machine.specs.States.{State}
use Rattle.machine.specs.Logs.{log_text}
use Rattle.machine.specs.Readings.{is_over}
use Rattle.attentive_acts.specs.Places.{Asks, Waits, Leaves, at_turn_end}
use Rattle.attentive_acts.specs.Judging.{Judge}
use Rattle.server_engine.specs.Engines.{Reads}
use Rattle.engine_loop.specs.declared.serve_end.ServeEnd.{ServeEnd}
use Rattle.engine_loop.specs.declared.serve_end.ServeEnd.TheVariants as ends
use Rattle.engine_loop.specs.declared.watch.Watch.{Watch}
use Rattle.engine_loop.specs.Stages.{Course, GoesWell, Stage, Cut, Is, IsTurned, IsWaiting, Passes}
use Rattle.engine_loop.specs.Turns.{Wrote, Failed, Logged, AfterLog, Heeds, EndsAtFailure, AfterTurn, AfterWait, HasQuit, with_front, waited_once, IsAny}
use Rattle.engine_loop.specs.Ends.{GoesOn, GoesOnAfter}
use Rattle.engine_loop.proofs.MoreActs.{elsewhere}
use Prim.{search}

-- the log was cleared
cleared : {E H : Type 0} (serves : E → List ℕ → State → Type 0) (state : H → HubState) (leads : H → H → Type 0) (r : Course H) (front : List ℕ) (core core' : E) (hub : H) (watch : Watch) (P : List Act → Judge → Type 0)
    → (st : Stage serves state leads (with_front front r) core hub watch P) → serves core' (log_text st.judge.state) st.judge.state
    → Stage serves state leads (with_front (log_text st.judge.state) r) core' hub watch P
cleared serves state leads r front core core' hub watch P st served = search (take_all (length (log_text st.judge.state)) (log_text st.judge.state) (omega arith))

-- the engine changed, and stands as before
abbrev stayed : {E H : Type 0} (serves : E → List ℕ → State → Type 0) (state : H → HubState) (leads : H → H → Type 0) (r : Course H) (core core' : E) (hub : H) (watch : Watch) (P Q : List Act → Judge → Type 0)
    → (st : Stage serves state leads r core hub watch P) → serves core' r.front st.judge.state → Q st.acts st.judge
    → Stage serves state leads r core' hub watch Q
stayed serves state leads r core core' hub watch P Q st served there = search

-- one text after another
pub wrote_more : (old mid new : SinkState) (front text : List ℕ) → Wrote old mid front → Wrote mid new text → Wrote old new (front ++ text)
wrote_more old mid new front text a b = record {
  taken = b.taken ∙ ap (λ (t : Option (List ℕ)). after t text) a.taken ∙ after-after old.taken front text;
  faults = b.faults ∙ a.faults;
}

pub failed_more : (old mid new : SinkState) (front text : List ℕ) → Wrote old mid front → Failed mid new text → Failed old new (front ++ text)
failed_more old mid new front text a b = record {
  taken = b.taken ∙ ap (λ (t : Option (List ℕ)). after t text) a.taken ∙ after-after old.taken front text;
  faults = subst (λ (n : ℕ). Rises n new.faults) a.faults b.faults;
}

pub log-step : {E H : Type 0} (serves : E → List ℕ → State → Type 0) (state : H → HubState) (leads : H → H → Type 0) (r : Course H) (front : List ℕ) (core core' : E) (hub : H) (watch : Watch) (old mid new : SinkState) (P : List Act → Judge → Type 0) (result : Result (Unit {0}) ServeEnd)
    → Wrote old mid front → (st : Stage serves state leads (with_front front r) core hub watch P) → AfterLog serves result core' front st.judge.state mid new
    → AfterTurn serves state leads r result core' hub watch old new P
log-step serves state leads r front core core' hub watch old mid new P (Ok done) wrote st h = record {
  front = log_text st.judge.state;
  stage = cleared serves state leads r front core core' hub watch P st h.3;
  wrote = subst (Wrote old new) h.1 (wrote_more old mid new front h.0 wrote h.2);
}
log-step serves state leads r front core core' hub watch old mid new P (Err ends.WriteFault) wrote st h = record {
  front = front;
  stage = stayed serves state leads (with_front front r) core core' hub watch P IsAny st h.3 tt;
  text = front ++ h.0;
  begins = h.1;
  failed = failed_more old mid new front h.0 wrote h.2;
}
log-step serves state leads r front core core' hub watch old mid new P (Err ends.Quit) wrote st h = absurd h
log-step serves state leads r front core core' hub watch old mid new P (Err ends.Over) wrote st h = absurd h
log-step serves state leads r front core core' hub watch old mid new P (Err ends.TurnsSpent) wrote st h = absurd h
log-step serves state leads r front core core' hub watch old mid new P (Err ends.HubFault) wrote st h = absurd h
log-step serves state leads r front core core' hub watch old mid new P (Err ends.OutOfMemory) wrote st h = absurd h

pub phase-step : {E H : Type 0} (serves : E → List ℕ → State → Type 0) (state : H → HubState) (leads : H → H → Type 0) (r : Course H) (core core1 core2 : E) (hub hub1 : H) (watch watch1 : Watch) (old mid new : SinkState) (P Q : List Act → Judge → Type 0) (done : Result (Unit {0}) OutOfMemory) (result : Result (Unit {0}) ServeEnd)
    → Logged serves state leads r core hub watch old mid P
    → Passes serves state leads done core core1 hub hub1 watch watch1 P Q
    → Heeds serves done result core1 core2 mid new
    → AfterTurn serves state leads r result core2 hub1 watch1 old new Q
phase-step serves state leads r core core1 core2 hub hub1 watch watch1 old mid new P Q (Ok done) result l passes heeds =
    let st : Stage serves state leads (with_front l.front r) core1 hub1 watch1 Q = passes (with_front l.front r) l.stage in
    log-step serves state leads r l.front core1 core2 hub1 watch1 old mid new Q result l.wrote st (heeds r.origin st.judge.latest l.front st.judge.state st.reached st.served)
phase-step serves state leads r core core1 core2 hub hub1 watch watch1 old mid new P Q (Err e) result l passes heeds =
    let cut : Cut state leads (with_front l.front r) hub1 = passes (with_front l.front r) l.stage in
    subst (λ (x : Result (Unit {0}) ServeEnd). AfterTurn serves state leads r x core2 hub1 watch1 old new Q) (sym heeds.0)
    (record { front = l.front; cut = cut; wrote = subst (λ (s : SinkState). Wrote old s l.front) (sym heeds.1) l.wrote })

-- ---- the wait of a turn, and its end

cut_waited : {H : Type 0} (state : H → HubState) (leads : H → H → Type 0) (r : Course H) (hub : H) → GoesWell r → Cut state leads r hub → Cut state leads (waited_once false r) hub
cut_waited state leads r hub calm cut = record {
  acts = cut.acts;
  judge = cut.judge;
  made = cut.made;
  waits = let few = cut.waits in omega (arith, few);
  faults = subst (λ (b : Bool). Counts b (state r.hub).faults (state hub).faults) calm.0 cut.faults;
  led = cut.led;
  wrote = cut.wrote;
}

pub wait-step : {E H : Type 0} (serves : E → List ℕ → State → Type 0) (state : H → HubState) (leads : H → H → Type 0) (r : Course H) (core : E) (hub hub1 : H) (watch watch1 : Watch) (old mid : SinkState) (result : Result (Unit {0}) ServeEnd)
    → GoesWell r → Logged serves state leads r core hub watch old mid IsWaiting
    → ((c : Course H) → GoesWell c → Stage serves state leads c core hub watch IsWaiting → AfterWait serves state leads c result core hub1 watch1)
    → AfterTurn serves state leads (waited_once false r) result core hub1 watch1 old mid (Is (λ fs s. Asks))
wait-step serves state leads r core hub hub1 watch watch1 old mid (Ok done) calm l go = record { front = l.front; stage = go (with_front l.front r) calm l.stage; wrote = l.wrote }
wait-step serves state leads r core hub hub1 watch watch1 old mid (Err ends.Over) calm l go = record { front = l.front; stage = go (with_front l.front r) calm l.stage; wrote = l.wrote }
wait-step serves state leads r core hub hub1 watch watch1 old mid (Err ends.HubFault) calm l go = record { front = l.front; stage = go (with_front l.front r) calm l.stage; wrote = l.wrote }
wait-step serves state leads r core hub hub1 watch watch1 old mid (Err ends.OutOfMemory) calm l go = record { front = l.front; cut = cut_waited state leads (with_front l.front r) hub1 calm (go (with_front l.front r) calm l.stage); wrote = l.wrote }
wait-step serves state leads r core hub hub1 watch watch1 old mid (Err ends.Quit) calm l go = absurd (go (with_front l.front r) calm l.stage)
wait-step serves state leads r core hub hub1 watch watch1 old mid (Err ends.TurnsSpent) calm l go = absurd (go (with_front l.front r) calm l.stage)
wait-step serves state leads r core hub hub1 watch watch1 old mid (Err ends.WriteFault) calm l go = absurd (go (with_front l.front r) calm l.stage)

turned_to : (s : State) (b : Bool) → is_over s ≡ b → at_turn_end s ≡ cond b (Leaves []) Waits
turned_to s b e = ap (λ (t : Bool). cond t (Leaves []) Waits) e

pub quit-step : {E H : Type 0} (serves : E → List ℕ → State → Type 0) (state : H → HubState) (leads : H → H → Type 0) (r : Course H) (core : E) (hub : H) (watch : Watch) (old mid : SinkState) (over : Bool)
    → over ≡ true → Reads serves core over is_over → Logged serves state leads r core hub watch old mid IsTurned → Logged serves state leads r core hub watch old mid HasQuit
quit-step serves state leads r core hub watch old mid over is reads l =
    let st : Stage serves state leads (with_front l.front r) core hub watch IsTurned = l.stage in
    let e : is_over st.judge.state ≡ true = sym (reads r.origin st.judge.latest l.front st.judge.state st.reached st.served) ∙ is in
    record { front = l.front; stage = elsewhere serves state leads (with_front l.front r) core hub watch IsTurned HasQuit st (e, st.there.0 ∙ turned_to st.judge.state true e); wrote = l.wrote }

pub on-step : {E H : Type 0} (serves : E → List ℕ → State → Type 0) (state : H → HubState) (leads : H → H → Type 0) (r : Course H) (core : E) (hub : H) (watch : Watch) (old mid : SinkState) (over : Bool)
    → over ≡ false → Reads serves core over is_over → Logged serves state leads r core hub watch old mid IsTurned → Logged serves state leads r core hub watch old mid IsWaiting
on-step serves state leads r core hub watch old mid over is reads l =
    let st : Stage serves state leads (with_front l.front r) core hub watch IsTurned = l.stage in
    let e : is_over st.judge.state ≡ false = sym (reads r.origin st.judge.latest l.front st.judge.state st.reached st.served) ∙ is in
    record { front = l.front; stage = elsewhere serves state leads (with_front l.front r) core hub watch IsTurned IsWaiting st (st.there.0 ∙ turned_to st.judge.state false e, st.there.1); wrote = l.wrote }

-- it ends so wherever it would go on to
err_any : {E H : Type 0} (serves : E → List ℕ → State → Type 0) (state : H → HubState) (leads : H → H → Type 0) (r : Course H) (e : ServeEnd) (core : E) (hub : H) (watch : Watch) (old new : SinkState) (P Q : List Act → Judge → Type 0)
    → AfterTurn serves state leads r (Err e) core hub watch old new P → AfterTurn serves state leads r (Err e) core hub watch old new Q
err_any serves state leads r ends.Quit core hub watch old new P Q h = h
err_any serves state leads r ends.Over core hub watch old new P Q h = h
err_any serves state leads r ends.TurnsSpent core hub watch old new P Q h = h
err_any serves state leads r ends.HubFault core hub watch old new P Q h = h
err_any serves state leads r ends.WriteFault core hub watch old new P Q h = h
err_any serves state leads r ends.OutOfMemory core hub watch old new P Q h = h

-- the turn ends so
pub turn-err : {E H : Type 0} (serves : E → List ℕ → State → Type 0) (state : H → HubState) (leads : H → H → Type 0) (r : Course H) (e : ServeEnd) (result : Result (Unit {0}) ServeEnd) (core : E) (hub : H) (watch : Watch) (old new : SinkState) (P Q : List Act → Judge → Type 0)
    → IsErrAnd result (λ y. y ≡ e) → AfterTurn serves state leads r (Err e) core hub watch old new P → AfterTurn serves state leads r result core hub watch old new Q
turn-err serves state leads r e (Ok done) core hub watch old new P Q is h = absurd is
turn-err serves state leads r e (Err y) core hub watch old new P Q is h = subst (λ (z : ServeEnd). AfterTurn serves state leads r (Err z) core hub watch old new Q) (sym is) (err_any serves state leads r e core hub watch old new P Q h)

-- where a step failed, nothing is to go on
pub none-goes-on : (e : ServeEnd) (result : Result (Unit {0}) ServeEnd) (holds : Type 0) → IsErrAnd result (λ y. y ≡ e) → EndsAtFailure (Err e) → GoesOnAfter result holds
none-goes-on e (Ok done) holds is h = absurd is
none-goes-on e (Err y) holds is h = subst (λ (z : ServeEnd). GoesOn z holds) (sym is) (by e h)
  where
    by : (z : ServeEnd) → EndsAtFailure (Err z) → GoesOn z holds
    by ends.WriteFault k = tt
    by ends.OutOfMemory k = tt
    by ends.Quit k = absurd k
    by ends.Over k = absurd k
    by ends.TurnsSpent k = absurd k
    by ends.HubFault k = absurd k

-- the end of a wait
pub wait-goes-on : (e : ServeEnd) (result : Result (Unit {0}) ServeEnd) (holds : Type 0) → IsErrAnd result (λ y. y ≡ e) → holds → GoesOnAfter result holds
wait-goes-on e (Ok done) holds is h = h
wait-goes-on e (Err ends.WriteFault) holds is h = tt
wait-goes-on e (Err ends.OutOfMemory) holds is h = tt
wait-goes-on e (Err ends.Quit) holds is h = h
wait-goes-on e (Err ends.Over) holds is h = h
wait-goes-on e (Err ends.TurnsSpent) holds is h = h
wait-goes-on e (Err ends.HubFault) holds is h = h
