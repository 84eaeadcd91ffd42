-- Clients that are told a message one after another, without one of them.
use Rattle.std.specs.Prelude.{◌≡◌, refl, ℕ, ◌+◌, ◌<◌, ◌≤◌, ◌==◌, Bool, true, false, not, cond, get_or, List, [], ◌∷◌, ◌++◌, length, take, filter, slice_get, Option, Some, None}
use Rattle.std.specs.List.{filter_map, cons_option}
use Rattle.std.specs.Option.{option_map, option_to_list}
use Rattle.std.proofs.Common.{arith, sym, ap, ◌∙◌, subst}
use Rattle.std.proofs.lemmas.Bool.{eqb-true, false_from_ne_true}
use Rattle.std.proofs.lemmas.List.{take_all}
use Rattle.std.proofs.lemmas.Option.{slice_get_read, slice_get_past}
use Rattle.message_codec.specs.declared.messages.Msg.{Msg}
use Rattle.hello_states.specs.Phases.{joined_screen}
use Rattle.machine.specs.Targets.{Target, Primary, Client, Own}
use Rattle.machine.specs.Connections.{Connection}
use Rattle.machine.specs.States.{State}
use Rattle.machine.specs.Screens.{screen_in}
use Rattle.machine.specs.Routing.{route, route_all}
use Rattle.machine.specs.Clipboards.{all_but}
use Rattle.connection_table.specs.declared.connection.Connection as kept
use Rattle.connection_table.specs.PhaseOf.{phase_of}
use Rattle.connection_table.specs.Standing.{StandsFor}
use Rattle.connection_table.proofs.Pairs.{FoundPair, pairs-length}
use Rattle.server_core.specs.declared.server.ServerCore.{ServerCore}
use Rattle.server_core.specs.Targets.{IsThere}
use Rattle.server_core.specs.Others.{is_other, others_among, tell_other_at}
use Rattle.server_core.specs.Standing.{Beside, around, Stands}
use Rattle.server_core.specs.Leading.{Leads, LeadsWhere}
use Rattle.server_core.proofs.Indexed.{take-one, filter_map-append}
use Rattle.server_core.proofs.Loops.{for_each-append}
use Rattle.server_core.proofs.ToldJoined.{pair-at, there-at, same-connections}

abbrev client_in : Connection → Option Target
client_in c = option_map (λ screen. Client c.serial) (screen_in c)

-- ---- one

pub other-none : (core : ServerCore) (m : Msg) (n i : ℕ) → None ≡ slice_get core.table i → Leads core core (tell_other_at i n m)
other-none core m n i e = λ b s h. by b s h (slice_get s.connections i) (pair-at b core s i None e h)
  where
    by : (b : Beside) (s : State) → Stands b core s → (o : Option Connection) → FoundPair (StandsFor (around b s)) None o → Stands b core (route_all Own (others_among n (option_to_list o)) m s)
    by b s h None f = h
    by b s h (Some c) f = absurd f

-- one that isn't joined
pub other-unjoined : (core : ServerCore) (m : Msg) (n i : ℕ) (k : kept.Connection) → Some k ≡ slice_get core.table i → joined_screen (phase_of k.phase) ≡ None → Leads core core (tell_other_at i n m)
other-unjoined core m n i k e none = λ b s h. by b s h (slice_get s.connections i) (pair-at b core s i (Some k) e h)
  where
    by : (b : Beside) (s : State) → Stands b core s → (o : Option Connection) → FoundPair (StandsFor (around b s)) (Some k) o → Stands b core (route_all Own (others_among n (option_to_list o)) m s)
    by b s h None f = absurd f
    by b s h (Some c) f = subst (λ (p : Option ℕ). Stands b core (route_all Own (filter (is_other n) (cons_option (option_map (λ screen. Client c.serial) p) [])) m s)) (sym (ap joined_screen (sym f.phase) ∙ none)) h

-- the one that hears nothing
pub other-itself : (core : ServerCore) (m : Msg) (n i serial screen : ℕ) (k : kept.Connection) → Some k ≡ slice_get core.table i → serial ≡ k.serial → serial ≡ n → joined_screen (phase_of k.phase) ≡ Some screen → Leads core core (tell_other_at i n m)
other-itself core m n i serial screen k e of same is = λ b s h. by b s h (slice_get s.connections i) (pair-at b core s i (Some k) e h)
  where
    by : (b : Beside) (s : State) → Stands b core s → (o : Option Connection) → FoundPair (StandsFor (around b s)) (Some k) o → Stands b core (route_all Own (others_among n (option_to_list o)) m s)
    by b s h None f = absurd f
    by b s h (Some c) f =
        let it : c.serial ≡ n = sym (of ∙ f.serial) ∙ same in
        let test : (c.serial == n) ≡ true = grind (arith, it) in
        subst (λ (p : Option ℕ). Stands b core (route_all Own (filter (is_other n) (cons_option (option_map (λ x. Client c.serial) p) [])) m s)) (sym (ap joined_screen (sym f.phase) ∙ is))
        (subst (λ (t : Bool). Stands b core (route_all Own (cond (not t) (Client c.serial ∷ []) []) m s)) (sym test) h)

pub other-told : (old new : ServerCore) (m : Msg) (n i serial screen : ℕ) (k : kept.Connection) → Some k ≡ slice_get old.table i → serial ≡ k.serial → (serial ≡ n → ⊥) → joined_screen (phase_of k.phase) ≡ Some screen → LeadsWhere (λ s. IsThere s (Client serial)) old new (route Own (Client serial) m) → Leads old new (tell_other_at i n m)
other-told old new m n i serial screen k e of differs is leads = λ b s h. by b s h (slice_get s.connections i) refl (pair-at b old s i (Some k) e h)
  where
    by : (b : Beside) (s : State) → Stands b old s → (o : Option Connection) → slice_get s.connections i ≡ o → FoundPair (StandsFor (around b s)) (Some k) o → Stands b new (route_all Own (others_among n (option_to_list o)) m s)
    by b s h None q f = absurd f
    by b s h (Some c) q f =
        let same : serial ≡ c.serial = of ∙ f.serial in
        let test : (c.serial == n) ≡ false = false_from_ne_true (c.serial == n) (λ t. differs (same ∙ eqb-true c.serial n t)) in
        subst (λ (p : Option ℕ). Stands b new (route_all Own (filter (is_other n) (cons_option (option_map (λ x. Client c.serial) p) [])) m s)) (sym (ap joined_screen (sym f.phase) ∙ is))
        (subst (λ (t : Bool). Stands b new (route_all Own (cond (not t) (Client c.serial ∷ []) []) m s)) (sym test)
        (subst (λ x. Stands b new (route Own (Client x) m s)) same (leads b s (subst (λ x. IsThere s (Client x)) (sym same) (there-at s.connections i c q)) h)))

-- ---- one after another

-- those among so many connections
abbrev pub tells_others : ℕ → ℕ → Msg → State → State
tells_others n i m s = route_all Own (others_among n (take i s.connections)) m s

pub others-none : (core : ServerCore) (n : ℕ) (m : Msg) → Leads core core (tells_others n 0 m)
others-none core n m = λ b s h. h

filter_append : {A : Type 0} (test : A → Bool) (xs ys : List A) → filter test (xs ++ ys) ≡ filter test xs ++ filter test ys
filter_append test [] ys = refl
filter_append {A} test (x ∷ xs) ys = by (test x) _ _ _ (filter_append test xs ys)
  where
    by : (b : Bool) (us vs ws : List A) → us ≡ vs ++ ws → cond b (x ∷ us) us ≡ cond b (x ∷ vs) vs ++ ws
    by true us vs ws e = ap (λ zs. x ∷ zs) e
    by false us vs ws e = e

others_append : (n : ℕ) (cs ds : List Connection) → others_among n (cs ++ ds) ≡ others_among n cs ++ others_among n ds
others_append n cs ds = ap (filter (is_other n)) (filter_map-append client_in cs ds) ∙ filter_append (is_other n) (filter_map client_in cs) (filter_map client_in ds)

pub others-more : (old now new : ServerCore) (n i : ℕ) (m : Msg) → Leads old now (tells_others n i m) → Leads now new (tell_other_at i n m) → Leads old new (tells_others n (i + 1) m)
others-more old now new n i m so_far leads = λ b s h.
    let one : List Target = others_among n (option_to_list (slice_get s.connections i)) in
    let more : others_among n (take (i + 1) s.connections) ≡ others_among n (take i s.connections) ++ one = ap (others_among n) (take-one s.connections i) ∙ others_append n (take i s.connections) (option_to_list (slice_get s.connections i)) in
    subst (λ t. Stands b new t) (ap (λ cs. route_all Own (others_among n (option_to_list (slice_get cs i))) m (tells_others n i m s)) (same-connections (others_among n (take i s.connections)) m s) ∙ (sym (for_each-append (others_among n (take i s.connections)) one (λ t. route Own t m) s) ∙ ap (λ ts. route_all Own ts m s) (sym more)))
    (leads b (tells_others n i m s) (so_far b s h))

pub others-all : (old now : ServerCore) (n i : ℕ) (m : Msg) → i ≡ length old.table → Leads old now (tells_others n i m) → Leads old now (λ s. route_all Own (others_among n s.connections) m s)
others-all old now n i m e so_far = λ b s h.
    let many : length s.connections ≡ i = sym (pairs-length (StandsFor (around b s)) 0 old.table s.connections h.connections) ∙ sym e in
    subst (λ cs. Stands b now (route_all Own (others_among n cs) m s)) (take_all i s.connections (omega (arith, many))) (so_far b s h)

pub all-told : (old now new : ServerCore) (n : ℕ) (m : Msg) → LeadsWhere (λ s. IsThere s Primary) old now (route Own Primary m) → Leads now new (λ s. route_all Own (others_among n s.connections) m s) → Leads old new (λ s. route_all Own (all_but n s) m s)
all-told old now new n m first rest = λ b s h. rest b (route Own Primary m s) (first b s tt h)

-- ---- what a slice gives at an index

pub got-none : {X : Type 0} (xs ys : List X) (i : ℕ) → length xs ≤ i → xs ≡ ys → None ≡ slice_get ys i
got-none xs ys i le e = sym (slice_get_past xs i le) ∙ ap (λ zs. slice_get zs i) e

pub got-some : {X : Type 0} (xs ys : List X) (i : ℕ) (x : X) → i < length xs → x ≡ get_or xs i x → xs ≡ ys → Some x ≡ slice_get ys i
got-some xs ys i x lt at e = sym (slice_get_read xs (length xs) i x refl lt at) ∙ ap (λ zs. slice_get zs i) e
