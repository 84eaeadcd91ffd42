-- The closing of a connection that was to be closed.
use Rattle.std.specs.Prelude.{◌≡◌, refl, ℕ, ◌+◌, ◌<◌, ◌≤◌, Bool, false, not, ◌==◌, cond, List, [], ◌∷◌, ◌++◌, length, take, drop, get_or, filter, Contains, Option, None, is_some}
use Rattle.std.specs.List.{find}
use Rattle.std.specs.Option.{option_map}
use Rattle.std.proofs.Common.{arith, ap, sym, subst, ◌∙◌}
use Rattle.std.proofs.lemmas.Bool.Decides.{nat_tests}
use Rattle.std.proofs.lemmas.Grind.{common_steps}
use Rattle.std.proofs.lemmas.List.{length-append, length-take, length-drop}
use Rattle.std.proofs.lemmas.List.Sums.{length-filter, count_by-le-length}
use Rattle.std.proofs.lemmas.List.Elements.{filter-append}
use Rattle.hub_acts.specs.declared.act.Act.{Act}
use Rattle.hub_acts.specs.declared.act.Act.TheVariants as act
use Rattle.hub_acts.specs.Hubs.{HubState}
use Rattle.machine.specs.Connections.{Connection, serials}
use Rattle.machine.specs.States.{State}
use Rattle.machine.specs.Queues.{total}
use Rattle.machine.specs.Readings.{closing, is_to_close}
use Rattle.machine.specs.Happenings.{IsOpen}
use Rattle.machine.specs.Happenings as machine
use Rattle.reached_states.specs.Reaching.{Origin, Reached}
use Rattle.attentive_acts.specs.Telling.{state_after}
use Rattle.attentive_acts.specs.Places.{Place, Closes, at_closes, at_turn_end, place_after}
use Rattle.attentive_acts.specs.Judging.{Judge, AllowsAt, judge_after}
use Rattle.engine_loop.specs.declared.watch.Watch.{Watch}
use Rattle.engine_loop.specs.Watches.{without}
use Rattle.engine_loop.specs.Stages.{Course, Stage, Cut, Is, IsToClose, IsTurned}
use Rattle.engine_loop.proofs.WatchFlags.{closes-flags, closes-serials, closes-seen}
use Rattle.engine_loop.proofs.MoreActs.{Acted, IsTransitive, Moves, moves-by, stage-more, cut-more, elsewhere}

-- ---- fewer are left

split : (ns : List ℕ) (k : ℕ) (d : ℕ) → k < length ns → ns ≡ take k ns ++ (get_or ns k d ∷ drop (k + 1) ns)
split ns k d lt = grind (arith, common_steps)

filter_upto : (p : ℕ → Bool) (ns : List ℕ) → length (filter p ns) ≤ length ns
filter_upto p ns = let a = length-filter p ns in let b = count_by-le-length p ns in omega (arith, a, b)

pub one-fewer : (c : ℕ) (ns : List ℕ) → Contains ns c → length (filter (λ n. not (n == c)) ns) < length ns
one-fewer c ns h =
    let p : ℕ → Bool = λ n. not (n == c) in
    let k : ℕ = h.0 in
    let lt : k < length ns = h.1 in
    let rest : List ℕ = drop (k + 1) ns in
    let gone : p (get_or ns k c) ≡ false = let e : get_or ns k c ≡ c = h.2 in grind (arith, nat_tests, e) in
    let here : filter p (get_or ns k c ∷ rest) ≡ filter p rest = ap (λ (b : Bool). cond b (get_or ns k c ∷ filter p rest) (filter p rest)) gone in
    let all : filter p ns ≡ filter p (take k ns) ++ filter p rest = ap (filter p) (split ns k c lt) ∙ filter-append p (take k ns) (get_or ns k c ∷ rest) ∙ ap (λ (xs : List ℕ). filter p (take k ns) ++ xs) here in
    let one = filter_upto p (take k ns) in
    let two = filter_upto p rest in
    let a = ap length all in
    let b = length-append (filter p (take k ns)) (filter p rest) in
    let m = length-take k ns in
    let n = length-drop (k + 1) ns in
    omega (arith, lt, one, two, a, b, m, n)

-- ---- the act

here : (j : Judge) (serial : ℕ) → IsToClose serial [] j → j.place ≡ Closes
here j serial is = is.0 ∙ ap (λ (o : Option ℕ). cond (is_some o) Closes (at_turn_end j.state)) is.1

pub close-more : {E H : Type 0} (serves : E → List ℕ → State → Type 0) (state : H → HubState) (leads : H → H → Type 0) (r : Course H) (core core' : E) (hub hub' : H) (watch watch' : Watch) (serial : ℕ)
    → IsTransitive leads → Acted state leads hub hub' (act.Close serial)
    → (st : Stage serves state leads r core hub watch (IsToClose serial))
    → watch'.streams.items ≡ without serial watch.streams.items → watch'.listens ≡ watch.listens
    → Moves r.origin st.judge.latest st.judge.state (act.Close serial) → serves core' r.front (state_after (act.Close serial) st.judge.state)
    → Stage serves state leads r core' hub' watch' (Is (λ fs s. at_closes s))
close-more serves state leads r core core' hub hub' watch watch' serial trans acted st streams listens moves served =
    let a : Act = act.Close serial in
    let k : Judge = judge_after st.judge a in
    stage-more serves state leads r core core' hub hub' watch watch' (IsToClose serial) (Is (λ f s. at_closes s)) a trans acted st
    (sym (closes-flags watch watch' serial (total st.judge.state.routed) streams listens)) (closes-seen watch watch' serial (total st.judge.state.routed) streams st.seen) (closes-serials watch watch' serial streams) moves
    (subst (λ (q : Place). AllowsAt q st.judge a) (sym (here st.judge serial st.there)) st.there.1) served (ap (λ (p : Place). place_after p a k.flags k.state) (here st.judge serial st.there))

pub close-cut : {E H : Type 0} (serves : E → List ℕ → State → Type 0) (state : H → HubState) (leads : H → H → Type 0) (r : Course H) (core : E) (hub hub' : H) (watch : Watch) (serial : ℕ)
    → IsTransitive leads → Acted state leads hub hub' (act.Close serial)
    → (st : Stage serves state leads r core hub watch (IsToClose serial))
    → Moves r.origin st.judge.latest st.judge.state (act.Close serial)
    → Cut state leads r hub'
close-cut serves state leads r core hub hub' watch serial trans acted st moves =
    cut-more serves state leads r core hub hub' watch (IsToClose serial) (act.Close serial) trans acted st moves
    (subst (λ (q : Place). AllowsAt q st.judge (act.Close serial)) (sym (here st.judge serial st.there)) st.there.1)

pub moves-closed : (o : Origin) (latest : ℕ) (s : State) (serial : ℕ) → Reached o latest s → IsOpen s serial → Moves o latest s (act.Close serial)
moves-closed o latest s serial reached is = moves-by o latest s (act.Close serial) (machine.Closed serial) refl refl refl reached is

-- none is left to be closed
pub turned : {E H : Type 0} (serves : E → List ℕ → State → Type 0) (state : H → HubState) (leads : H → H → Type 0) (r : Course H) (core : E) (hub : H) (watch : Watch)
    → (st : Stage serves state leads r core hub watch (Is (λ fs s. at_closes s))) → closing st.judge.state ≡ None → Stage serves state leads r core hub watch IsTurned
turned serves state leads r core hub watch st e =
    elsewhere serves state leads r core hub watch (Is (λ fs s. at_closes s)) IsTurned st
    (st.there ∙ ap (λ (o : Option ℕ). cond (is_some o) Closes (at_turn_end st.judge.state)) e, e)

-- where no connection is left, none is to be closed
none_found : (test : Connection → Bool) (cs : List Connection) → length (serials cs) ≡ 0 → option_map (λ (c : Connection). c.serial) (find test cs) ≡ None
none_found test [] e = refl
none_found test (c ∷ cs) e = absurd (let x : ⊥ = omega (arith, e) in x)

pub none-closing : (s : State) → length (serials s.connections) ≡ 0 → closing s ≡ None
none-closing s e = none_found (is_to_close s) s.connections e
