-- A wait, with each answer; and the moment that is asked for after it.
use Rattle.std.specs.Prelude.{◌≡◌, refl, ℕ, ◌+◌, ◌<◌, Bool, true, false, cond, List, [], ◌∷◌, ◌++◌, length, fold, Some, None}
use Rattle.std.specs.List.{list_all}
use Rattle.std.proofs.Common.{arith, ap, sym, subst, ◌∙◌}
use Rattle.std.proofs.lemmas.Grind.{common_steps}
use Rattle.std.proofs.lemmas.List.Sums.{sum_by_push}
use Rattle.hub_acts.specs.declared.act.Act.{Act}
use Rattle.hub_acts.specs.declared.act.Act.TheVariants as act
use Rattle.hub_acts.specs.declared.answers.Waited.{Waited}
use Rattle.hub_acts.specs.declared.answers.Waited.TheVariants as waited
use Rattle.hub_acts.specs.declared.marks.Mark.{Mark}
use Rattle.hub_acts.specs.Counting.{Counts, is_fault}
use Rattle.hub_acts.specs.Hubs.{HubState, HubCalls}
use Rattle.machine.specs.Connections.{serials}
use Rattle.machine.specs.States.{State}
use Rattle.machine.specs.Queues.{total}
use Rattle.machine.specs.Readings.{closing}
use Rattle.machine.specs.Happenings as machine
use Rattle.reached_states.specs.Reaching.{Origin, Reached}
use Rattle.reached_states.proofs.FewOpen.{few-are-open}
use Rattle.attentive_acts.specs.Telling.{state_after}
use Rattle.attentive_acts.specs.Flags.{flags_with, with_mark}
use Rattle.attentive_acts.specs.Places.{Place, Asks, at_accepts, most_accepts, place_after}
use Rattle.attentive_acts.specs.Judging.{Judge, AllowsAt, timeout, judge_after}
use Rattle.attentive_acts.specs.Offered.{is_ready}
use Rattle.engine_loop.specs.declared.watch.Watch.{Watch}
use Rattle.engine_loop.specs.Watches.{flags_of, serials_in, AreSeen, Sets}
use Rattle.engine_loop.specs.Stages.{Course, GoesWell, Stage, Cut, Is, IsWaiting, first_of, is_wait, waits_in}
use Rattle.engine_loop.specs.Turns.{waited_once, ended_once, HasEnded}
use Rattle.engine_loop.proofs.WatchFlags.{flags-grown}
use Rattle.engine_loop.proofs.MoreActs.{Acted, IsTransitive, Moves, moves-by, moves-none, made-more, ready-more, ready-none, stage-more, cut-more}

-- at a wait few connections are open
pub few-wait : (o : Origin) (latest : ℕ) (s : State) → Reached o latest s → closing s ≡ None → length (serials s.connections) < 128
few-wait o latest s r e =
    let few = (few-are-open o latest s r).settled e in
    let size : length (serials s.connections) ≡ length s.connections = grind (arith, common_steps) in
    omega (arith, few, size)

faults_more : (before failed now : Bool) (old mid new : ℕ) → before ≡ false → now ≡ failed → Counts before old mid → Counts now mid new → Counts failed old new
faults_more before failed now old mid new e k a b =
    let same : mid ≡ old = subst (λ (t : Bool). Counts t old mid) e a in
    subst (λ (t : Bool). Counts t old new) k (subst (λ (n : ℕ). Counts now n new) same b)

waits_one : (acts : List Act) (a : Act) (n : ℕ) → is_wait a ≡ true → waits_in acts ≡ n → waits_in (acts ++ a ∷ []) ≡ n + 1
waits_one acts a n e k =
    let weight : Act → ℕ = λ b. cond (is_wait b) 1 0 in
    let push : waits_in (acts ++ a ∷ []) ≡ waits_in acts + weight a = sum_by_push weight acts a in
    let weigh : Bool → ℕ = λ b. cond b 1 0 in
    let one : weight a ≡ weigh true = ap weigh e in
    let one_is : weigh true ≡ 1 = refl in
    omega (arith, push, one, one_is, k)

pub stage-wait : {E H : Type 0} (serves : E → List ℕ → State → Type 0) (state : H → HubState) (leads : H → H → Type 0) (r : Course H) (core : E) (hub hub' : H) (watch watch' : Watch) (Q : List Act → Judge → Type 0) (ms : ℕ) (answer : Waited) (marks : List Mark) (failed ready : Bool)
    → IsTransitive leads → HubCalls (Some (act.Wait ms answer marks)) (state hub) (state hub') → leads hub hub' → r.failed ≡ false → is_fault (act.Wait ms answer marks) ≡ failed
    → (st : Stage serves state leads r core hub watch IsWaiting)
    → list_all is_ready (st.acts ++ act.Wait ms answer marks ∷ []) ≡ ready
    → ms ≡ timeout st.judge.flags st.judge.state
    → flags_with (act.Wait ms answer marks) (flags_of (total st.judge.state.routed) watch) ≡ flags_of (total st.judge.state.routed) watch' → AreSeen (total st.judge.state.routed) watch'.streams.items → serials_in watch' ≡ serials_in watch
    → Q (st.acts ++ act.Wait ms answer marks ∷ []) (judge_after st.judge (act.Wait ms answer marks))
    → Stage serves state leads (record r { waits = r.waits + 1; failed = failed; ready = ready }) core hub' watch' Q
stage-wait serves state leads r core hub hub' watch watch' Q ms answer marks failed ready trans calls led calm fault st all soon fs seen ws there =
    let a : Act = act.Wait ms answer marks in
    let moves : Moves r.origin st.judge.latest st.judge.state a = moves-none r.origin st.judge.latest st.judge.state a refl refl refl st.reached in
    record {
      acts = st.acts ++ a ∷ [];
      judge = judge_after st.judge a;
      made = made-more (first_of r) (state r.hub) (state hub) (state hub') st.acts st.judge a refl st.made (subst (λ (q : Place). AllowsAt q st.judge a) (sym st.there.0) soon) calls.acts;
      waits = waits_one st.acts a r.waits refl st.waits;
      ready = all;
      faults = faults_more r.failed failed (is_fault a) (state r.hub).faults (state hub).faults (state hub').faults calm fault st.faults calls.faults;
      led = trans r.hub hub hub' st.led led;
      latest = st.latest ∙ sym calls.latest;
      flags = flags-grown st.judge.state st.judge.state (flags_with a st.judge.flags) watch' moves.grows seen (ap (flags_with a) st.flags ∙ fs);
      seen = seen;
      watched = ws ∙ st.watched;
      reached = st.reached;
      served = st.served;
      wrote = st.wrote;
      there = there;
    }

pub wait-ready : {E H : Type 0} (serves : E → List ℕ → State → Type 0) (state : H → HubState) (leads : H → H → Type 0) (r : Course H) (core : E) (hub hub' : H) (watch watch' : Watch) (ms : ℕ) (marks : List Mark)
    → IsTransitive leads → HubCalls (Some (act.Wait ms waited.Ready marks)) (state hub) (state hub') → leads hub hub' → GoesWell r
    → (st : Stage serves state leads r core hub watch IsWaiting) → ms ≡ timeout st.judge.flags st.judge.state
    → Sets watch watch' (λ fs. fold with_mark fs marks)
    → Stage serves state leads (waited_once false r) core hub' watch' (Is (λ fs s. Asks))
wait-ready serves state leads r core hub hub' watch watch' ms marks trans calls led calm st soon sets =
    let k : Judge = judge_after st.judge (act.Wait ms waited.Ready marks) in
    stage-wait serves state leads r core hub hub' watch watch' (Is (λ fs s. Asks)) ms waited.Ready marks false r.ready trans calls led calm.0 refl st (ready-more st.acts (act.Wait ms waited.Ready marks) refl ∙ st.ready) soon
    (sym (sets.flags (total st.judge.state.routed))) (sets.seen (total st.judge.state.routed) st.seen) sets.serials (ap (λ (p : Place). place_after p (act.Wait ms waited.Ready marks) k.flags k.state) st.there.0)

pub wait-over : {E H : Type 0} (serves : E → List ℕ → State → Type 0) (state : H → HubState) (leads : H → H → Type 0) (r : Course H) (core : E) (hub hub' : H) (watch : Watch) (ms : ℕ)
    → IsTransitive leads → HubCalls (Some (act.Wait ms waited.Over [])) (state hub) (state hub') → leads hub hub' → GoesWell r
    → (st : Stage serves state leads r core hub watch IsWaiting) → ms ≡ timeout st.judge.flags st.judge.state
    → Stage serves state leads (ended_once false r) core hub' watch (HasEnded waited.Over)
wait-over serves state leads r core hub hub' watch ms trans calls led calm st soon =
    let k : Judge = judge_after st.judge (act.Wait ms waited.Over []) in
    stage-wait serves state leads r core hub hub' watch watch (HasEnded waited.Over) ms waited.Over [] false false trans calls led calm.0 refl st (ready-none st.acts (act.Wait ms waited.Over []) refl) soon refl st.seen refl
    ((st.acts, ms, refl), ap (λ (p : Place). place_after p (act.Wait ms waited.Over []) k.flags k.state) st.there.0)

pub wait-failed : {E H : Type 0} (serves : E → List ℕ → State → Type 0) (state : H → HubState) (leads : H → H → Type 0) (r : Course H) (core : E) (hub hub' : H) (watch : Watch) (ms : ℕ)
    → IsTransitive leads → HubCalls (Some (act.Wait ms waited.Failed [])) (state hub) (state hub') → leads hub hub' → GoesWell r
    → (st : Stage serves state leads r core hub watch IsWaiting) → ms ≡ timeout st.judge.flags st.judge.state
    → Stage serves state leads (ended_once true r) core hub' watch (HasEnded waited.Failed)
wait-failed serves state leads r core hub hub' watch ms trans calls led calm st soon =
    let k : Judge = judge_after st.judge (act.Wait ms waited.Failed []) in
    stage-wait serves state leads r core hub hub' watch watch (HasEnded waited.Failed) ms waited.Failed [] true false trans calls led calm.0 refl st (ready-none st.acts (act.Wait ms waited.Failed []) refl) soon refl st.seen refl
    ((st.acts, ms, refl), ap (λ (p : Place). place_after p (act.Wait ms waited.Failed []) k.flags k.state) st.there.0)

-- ---- the moment

pub moves-moment : (o : Origin) (latest : ℕ) (s : State) (t : ℕ) → Reached o latest s → Moves o latest s (act.Now t)
moves-moment o latest s t reached = moves-by o latest s (act.Now t) (machine.Moment t) refl refl refl reached tt

pub moment-more : {E H : Type 0} (serves : E → List ℕ → State → Type 0) (state : H → HubState) (leads : H → H → Type 0) (r : Course H) (core core' : E) (hub hub' : H) (watch : Watch) (t : ℕ)
    → IsTransitive leads → Acted state leads hub hub' (act.Now t)
    → (st : Stage serves state leads r core hub watch (Is (λ fs s. Asks)))
    → serves core' r.front (state_after (act.Now t) st.judge.state)
    → Stage serves state leads r core' hub' watch (Is (λ fs s. at_accepts fs s most_accepts))
moment-more serves state leads r core core' hub hub' watch t trans acted st served =
    let a : Act = act.Now t in
    let k : Judge = judge_after st.judge a in
    stage-more serves state leads r core core' hub hub' watch watch (Is (λ fs s. Asks)) (Is (λ fs s. at_accepts fs s most_accepts)) a trans acted st refl st.seen refl
    (moves-moment r.origin st.judge.latest st.judge.state t st.reached) (subst (λ (q : Place). AllowsAt q st.judge a) (sym st.there) tt) served
    (ap (λ (p : Place). place_after p a k.flags k.state) st.there)

pub moment-cut : {E H : Type 0} (serves : E → List ℕ → State → Type 0) (state : H → HubState) (leads : H → H → Type 0) (r : Course H) (core : E) (hub hub' : H) (watch : Watch) (t : ℕ)
    → IsTransitive leads → Acted state leads hub hub' (act.Now t)
    → (st : Stage serves state leads r core hub watch (Is (λ fs s. Asks)))
    → Cut state leads r hub'
moment-cut serves state leads r core hub hub' watch t trans acted st =
    cut-more serves state leads r core hub hub' watch (Is (λ fs s. Asks)) (act.Now t) trans acted st
    (moves-moment r.origin st.judge.latest st.judge.state t st.reached) (subst (λ (q : Place). AllowsAt q st.judge (act.Now t)) (sym st.there) tt)
