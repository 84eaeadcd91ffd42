-- One more act: where a stage or a cut leads.
use Rattle.std.specs.Prelude.{◌≡◌, refl, ℕ, ◌+◌, ◌≤◌, Bool, true, false, ◌&&◌, cond, List, [], ◌∷◌, ◌++◌, length, take, Option, Some, None, Result, Ok, Err, IsErr}
use Rattle.std.specs.List.{list_all}
use Rattle.std.proofs.Common.{arith, ap, sym, subst, ◌∙◌, append_assoc}
use Rattle.std.proofs.lemmas.Bool.{and_from}
use Rattle.std.proofs.lemmas.List.Folds.{list_all-append}
use Rattle.std.proofs.lemmas.List.{take-take, take_all, length-take}
use Rattle.std.proofs.lemmas.List.Sums.{sum_by_push}
use Rattle.share_base.specs.declared.out_of_memory.OutOfMemory.{OutOfMemory}
use Rattle.share_base.specs.Fronts.{IsFront}
use Rattle.hub_acts.specs.declared.act.Act.{Act}
use Rattle.hub_acts.specs.declared.act.Act.TheVariants as act
use Rattle.hub_acts.specs.Acts.{known_after}
use Rattle.hub_acts.specs.Counting.{Counts, is_fault, latest_with, open_with}
use Rattle.hub_acts.specs.Hubs.{HubState, HubCalls}
use Rattle.machine.specs.Connections.{serials}
use Rattle.machine.specs.States.{State}
use Rattle.machine.specs.Queues.{total}
use Rattle.machine.specs.Logs.{log_text}
use Rattle.machine.specs.Happenings.{Happening, IsAllowed, latest_after}
use Rattle.machine.specs.Steps.{step}
use Rattle.reached_states.specs.Reaching.{Origin, Reached}
use Rattle.reached_states.specs.OpenSerials.{serials_after}
use Rattle.reached_states.proofs.Reaching.{goes-on}
use Rattle.reached_states.proofs.OpenAfter.{open-after}
use Rattle.reached_states.proofs.GrowingLog.{log-grows}
use Rattle.attentive_acts.specs.Telling.{state_after}
use Rattle.attentive_acts.specs.Flags.{flags_with}
use Rattle.attentive_acts.specs.Judging.{Judge, Allows, Follows, judged, judge_after}
use Rattle.attentive_acts.specs.Offered.{is_answered, is_ready}
use Rattle.engine_loop.specs.declared.watch.Watch.{Watch}
use Rattle.engine_loop.specs.Watches.{flags_of, serials_in, AreSeen}
use Rattle.engine_loop.specs.Stages.{Made, Course, Stage, Cut, After, first_of, is_wait, waits_in, known_with}
use Rattle.engine_loop.proofs.WatchFlags.{flags-grown, seen-grows}
use Rattle.engine_loop.proofs.Totals.{total-grows}
use Prim.{search}

-- ---- lists of acts

judged_more : (j : Judge) (acts : List Act) (a : Act) → judged j (acts ++ a ∷ []) ≡ judge_after (judged j acts) a
judged_more j [] a = refl
judged_more j (b ∷ acts) a = judged_more (judge_after j b) acts a

follows_more : (j : Judge) (acts : List Act) (a : Act) → Follows j acts → Allows (judged j acts) a → Follows j (acts ++ a ∷ [])
follows_more j [] a f h = (h, tt)
follows_more j (b ∷ acts) a f h = (f.0, follows_more (judge_after j b) acts a f.1 h)

known_more : (acts : List Act) (a : Act) (known : Option (List Act)) → known_after (Some a) (known_with acts known) ≡ known_with (acts ++ a ∷ []) known
known_more acts a None = refl
known_more acts a (Some before) = ap (λ (xs : List Act). Some xs) (append_assoc before acts (a ∷ []))

answered_more : (acts : List Act) (a : Act) → list_all is_answered acts ≡ true → is_answered a ≡ true → list_all is_answered (acts ++ a ∷ []) ≡ true
answered_more acts a all one = list_all-append is_answered acts (a ∷ []) ∙ and_from (list_all is_answered acts) (list_all is_answered (a ∷ [])) all (and_from (is_answered a) true one refl)

pub made-more : (first : Judge) (old mid new : HubState) (acts : List Act) (j : Judge) (a : Act) → is_answered a ≡ true → Made first old mid acts j → Allows j a → new.acts ≡ known_after (Some a) mid.acts → Made first old new (acts ++ a ∷ []) (judge_after j a)
made-more first old mid new acts j a answered m h k = record {
  follows = follows_more first acts a m.follows (subst (λ (i : Judge). Allows i a) (sym m.judges) h);
  judges = judged_more first acts a ∙ ap (λ (i : Judge). judge_after i a) m.judges;
  answered = answered_more acts a m.answered answered;
  known = k ∙ ap (known_after (Some a)) m.known ∙ known_more acts a old.acts;
}

waits_more : (acts : List Act) (a : Act) → is_wait a ≡ false → waits_in (acts ++ a ∷ []) ≡ waits_in acts
waits_more acts a e =
    let weight : Act → ℕ = λ b. cond (is_wait b) 1 0 in
    let push : waits_in (acts ++ a ∷ []) ≡ waits_in acts + weight a = sum_by_push weight acts a in
    let weigh : Bool → ℕ = λ b. cond b 1 0 in
    let none : weight a ≡ weigh false = ap weigh e in
    let zero_is : weigh false ≡ 0 = refl in
    omega (arith, push, none, zero_is)

counts_more : (failed more : Bool) (old mid new : ℕ) → Counts failed old mid → Counts more mid new → more ≡ false → Counts failed old new
counts_more failed more old mid new f m e = subst (Counts failed old) (sym (subst (λ (b : Bool). Counts b mid new) e m)) f

wait_ready : (a : Act) → is_wait a ≡ false → is_ready a ≡ true
wait_ready (act.Wait ms answer marks) e = absurd (let x : ⊥ = cc in x)
wait_ready a e = refl

pub ready-more : (acts : List Act) (a : Act) → is_ready a ≡ true → list_all is_ready (acts ++ a ∷ []) ≡ list_all is_ready acts
ready-more acts a e = list_all-append is_ready acts (a ∷ []) ∙ ap (λ (b : Bool). list_all is_ready acts && (b && true)) e ∙ and_true (list_all is_ready acts)
  where
    and_true : (b : Bool) → (b && true) ≡ b
    and_true true = refl
    and_true false = refl

pub ready-none : (acts : List Act) (a : Act) → is_ready a ≡ false → list_all is_ready (acts ++ a ∷ []) ≡ false
ready-none acts a e = list_all-append is_ready acts (a ∷ []) ∙ ap (λ (b : Bool). list_all is_ready acts && (b && true)) e ∙ and_false (list_all is_ready acts)
  where
    and_false : (b : Bool) → (b && false) ≡ false
    and_false true = refl
    and_false false = refl

pub front-on : (front one other : List ℕ) → IsFront front one → IsFront one other → IsFront front other
front-on front one other h k =
    let fits : length front ≤ length one = omega (arith, ap length h, length-take (length front) one) in
    sym (take-take (length front) (length one) other fits) ∙ ap (take (length front)) k ∙ h

-- ---- where the machine goes

-- from a state to another one, by an act
pub record MovesTo (o : Origin) (latest : ℕ) (s : State) (a : Act) (next : State) : Type 0 where
  pub reached : Reached o (latest_with a latest) next
  pub open_now : serials next.connections ≡ open_with a (serials s.connections)
  pub grows : (c : ℕ) → total s.routed c ≤ total next.routed c
  pub log : IsFront (log_text s) (log_text next)

abbrev pub Moves : Origin → ℕ → State → Act → Type 0
Moves o latest s a = MovesTo o latest s a (state_after a s)

-- by the act's happening
pub moves-by : (o : Origin) (latest : ℕ) (s : State) (a : Act) (h : Happening) → state_after a s ≡ step s h → latest_after latest h ≡ latest_with a latest → serials_after h (serials s.connections) ≡ open_with a (serials s.connections)
    → Reached o latest s → IsAllowed latest s h → Moves o latest s a
moves-by o latest s a h e l n r k = subst (MovesTo o latest s a) (sym e) (record {
  reached = subst (λ (m : ℕ). Reached o m (step s h)) l (goes-on o latest s h r k);
  open_now = open-after s h ∙ n;
  grows = total-grows s (step s h) (log-grows s (h ∷ [])).told;
  log = (log-grows s (h ∷ [])).text;
})

-- an act without one leaves it
pub moves-none : (o : Origin) (latest : ℕ) (s : State) (a : Act) → state_after a s ≡ s → latest_with a latest ≡ latest → open_with a (serials s.connections) ≡ serials s.connections → Reached o latest s → Moves o latest s a
moves-none o latest s a e l n r = subst (MovesTo o latest s a) (sym e) (record {
  reached = subst (λ (m : ℕ). Reached o m s) (sym l) r;
  open_now = sym n;
  grows = λ c. omega arith;
  log = take_all (length (log_text s)) (log_text s) (omega arith);
})

-- ---- one more act of a run

-- the act was made, it isn't a wait, no fault of the hub, and no write that ran out of memory
pub record Acted {H : Type 0} (state : H → HubState) (leads : H → H → Type 0) (hub hub' : H) (a : Act) : Type 0 where
  pub calls : HubCalls (Some a) (state hub) (state hub')
  pub led : leads hub hub'
  pub calm : is_fault a ≡ false
  pub goes : is_wait a ≡ false
  pub answered : is_answered a ≡ true

abbrev pub IsTransitive : {H : Type 0} → (H → H → Type 0) → Type 0
IsTransitive {H = H} leads = (old middle new : H) → leads old middle → leads middle new → leads old new

pub stage-more : {E H : Type 0} (serves : E → List ℕ → State → Type 0) (state : H → HubState) (leads : H → H → Type 0) (r : Course H) (core core' : E) (hub hub' : H) (watch watch' : Watch) (P Q : List Act → Judge → Type 0) (a : Act)
    → IsTransitive leads → Acted state leads hub hub' a
    → (st : Stage serves state leads r core hub watch P)
    → flags_with a (flags_of (total st.judge.state.routed) watch) ≡ flags_of (total st.judge.state.routed) watch' → AreSeen (total st.judge.state.routed) watch'.streams.items → serials_in watch' ≡ open_with a (serials_in watch)
    → Moves r.origin st.judge.latest st.judge.state a → Allows st.judge a → serves core' r.front (state_after a st.judge.state) → Q (st.acts ++ a ∷ []) (judge_after st.judge a)
    → Stage serves state leads r core' hub' watch' Q
stage-more serves state leads r core core' hub hub' watch watch' P Q a trans acted st fs seen ws moves allowed served there = record {
  acts = st.acts ++ a ∷ [];
  judge = judge_after st.judge a;
  made = made-more (first_of r) (state r.hub) (state hub) (state hub') st.acts st.judge a acted.answered st.made allowed acted.calls.acts;
  waits = waits_more st.acts a acted.goes ∙ st.waits;
  ready = ready-more st.acts a (wait_ready a acted.goes) ∙ st.ready;
  faults = counts_more r.failed (is_fault a) (state r.hub).faults (state hub).faults (state hub').faults st.faults acted.calls.faults acted.calm;
  led = trans r.hub hub hub' st.led acted.led;
  latest = ap (latest_with a) st.latest ∙ sym acted.calls.latest;
  flags = flags-grown st.judge.state (state_after a st.judge.state) (flags_with a st.judge.flags) watch' moves.grows seen (ap (flags_with a) st.flags ∙ fs);
  seen = seen-grows (total st.judge.state.routed) (total (state_after a st.judge.state).routed) moves.grows watch'.streams.items seen;
  watched = ws ∙ ap (open_with a) st.watched ∙ sym moves.open_now;
  reached = moves.reached;
  served = served;
  wrote = front-on r.front (log_text st.judge.state) (log_text (state_after a st.judge.state)) st.wrote moves.log;
  there = there;
}

pub cut-more : {E H : Type 0} (serves : E → List ℕ → State → Type 0) (state : H → HubState) (leads : H → H → Type 0) (r : Course H) (core : E) (hub hub' : H) (watch : Watch) (P : List Act → Judge → Type 0) (a : Act)
    → IsTransitive leads → Acted state leads hub hub' a
    → (st : Stage serves state leads r core hub watch P) → Moves r.origin st.judge.latest st.judge.state a → Allows st.judge a
    → Cut state leads r hub'
cut-more serves state leads r core hub hub' watch P a trans acted st moves allowed = record {
  acts = st.acts ++ a ∷ [];
  judge = judge_after st.judge a;
  made = made-more (first_of r) (state r.hub) (state hub) (state hub') st.acts st.judge a acted.answered st.made allowed acted.calls.acts;
  waits = let e : waits_in (st.acts ++ a ∷ []) ≡ r.waits = waits_more st.acts a acted.goes ∙ st.waits in omega (arith, e);
  faults = counts_more r.failed (is_fault a) (state r.hub).faults (state hub).faults (state hub').faults st.faults acted.calls.faults acted.calm;
  led = trans r.hub hub hub' st.led acted.led;
  wrote = front-on r.front (log_text st.judge.state) (log_text (state_after a st.judge.state)) st.wrote moves.log;
}

-- no act was made: memory ran out in the call
pub cut-none : {E H : Type 0} (serves : E → List ℕ → State → Type 0) (state : H → HubState) (leads : H → H → Type 0) (r : Course H) (core : E) (hub hub' : H) (watch : Watch) (P : List Act → Judge → Type 0)
    → IsTransitive leads → HubCalls None (state hub) (state hub') → leads hub hub'
    → Stage serves state leads r core hub watch P → Cut state leads r hub'
cut-none serves state leads r core hub hub' watch P trans calls led st = record {
  acts = st.acts;
  judge = st.judge;
  made = record { follows = st.made.follows; judges = st.made.judges; answered = st.made.answered; known = calls.acts ∙ same (state hub).acts ∙ st.made.known };
  waits = let e = st.waits in omega (arith, e);
  faults = subst (Counts r.failed (state r.hub).faults) (sym calls.faults) st.faults;
  led = trans r.hub hub hub' st.led led;
  wrote = st.wrote;
}
  where
    same : (known : Option (List Act)) → known_after None known ≡ known
    same None = refl
    same (Some acts) = refl

-- the place is called another way
pub elsewhere : {E H : Type 0} (serves : E → List ℕ → State → Type 0) (state : H → HubState) (leads : H → H → Type 0) (r : Course H) (core : E) (hub : H) (watch : Watch) (P Q : List Act → Judge → Type 0)
    → (st : Stage serves state leads r core hub watch P) → Q st.acts st.judge → Stage serves state leads r core hub watch Q
elsewhere serves state leads r core hub watch P Q st there = search

-- where memory ran out
pub after-err : (result : Result (Unit {0}) OutOfMemory) (A : Type 0) {B : Type 0} → IsErr result → B → After result A B
after-err (Ok done) A h cut = absurd (let x : ⊥ = cc in x)
after-err (Err e) A h cut = cut
