-- Joined connections that are told a message one after another, and who is joined.
use Rattle.std.specs.Prelude.{◌≡◌, refl, ℕ, zero, suc, ◌+◌, ◌==◌, Bool, true, false, ◌||◌, cond, is_some, List, [], ◌∷◌, ◌++◌, length, take, slice_get, Option, Some, None}
use Rattle.std.specs.List.{find, list_any, cons_option}
use Rattle.std.specs.Option.{option_map, option_to_list}
use Rattle.std.proofs.Common.{arith, sym, ap, ◌∙◌, subst}
use Rattle.std.proofs.lemmas.Bool.{eqb-true, false_from_ne_true}
use Rattle.std.proofs.lemmas.List.{take_all}
use Rattle.message_codec.specs.declared.messages.Msg.{Msg}
use Rattle.hello_states.specs.Phases.{joined_screen}
use Rattle.machine.specs.Targets.{Target, Client, Own}
use Rattle.machine.specs.Connections.{Connection, has_serial}
use Rattle.machine.specs.States.{State}
use Rattle.machine.specs.Screens.{screen_in, joined_clients, is_screen_joined}
use Rattle.machine.specs.Routing.{route, route_all}
use Rattle.machine.proofs.Rules.{for_each-keeps}
use Rattle.connection_table.specs.declared.connection.Connection as kept
use Rattle.connection_table.specs.PhaseOf.{phase_of}
use Rattle.connection_table.specs.Tables as tables
use Rattle.connection_table.specs.Standing.{StandsFor}
use Rattle.connection_table.proofs.Pairs.{FoundPair, pairs-length}
use Rattle.server_core.specs.declared.server.ServerCore.{ServerCore}
use Rattle.server_core.specs.Targets.{IsThere}
use Rattle.server_core.specs.Telling.{joined_among, tell_at}
use Rattle.server_core.specs.Standing.{Beside, around, Stands}
use Rattle.server_core.specs.Leading.{Leads, LeadsWhere}
use Rattle.server_core.proofs.Indexed.{take-one, filter_map-append, pairs-at}
use Rattle.server_core.proofs.JoinedScreens.{set-joined}
use Rattle.server_core.proofs.Loops.{for_each-append}

-- ---- one

pub pair-at : (b : Beside) (core : ServerCore) (s : State) (i : ℕ) (o : Option kept.Connection) → o ≡ slice_get core.table i → Stands b core s → FoundPair (StandsFor (around b s)) o (slice_get s.connections i)
pair-at b core s i o e h = subst (λ x. FoundPair (StandsFor (around b s)) x (slice_get s.connections i)) (sym e) (pairs-at (StandsFor (around b s)) 0 core.table s.connections i h.connections)

pub told-none : (core : ServerCore) (m : Msg) (i : ℕ) → None ≡ slice_get core.table i → Leads core core (tell_at i m)
told-none core m i e = λ b s h. by b s h (slice_get s.connections i) (pair-at b core s i None e h)
  where
    by : (b : Beside) (s : State) → Stands b core s → (o : Option Connection) → FoundPair (StandsFor (around b s)) None o → Stands b core (route_all Own (joined_among (option_to_list o)) m s)
    by b s h None f = h
    by b s h (Some c) f = absurd f

-- one that isn't joined
pub told-other : (core : ServerCore) (m : Msg) (i : ℕ) (k : kept.Connection) → Some k ≡ slice_get core.table i → joined_screen (phase_of k.phase) ≡ None → Leads core core (tell_at i m)
told-other core m i k e off = λ b s h. by b s h (slice_get s.connections i) (pair-at b core s i (Some k) e h)
  where
    by : (b : Beside) (s : State) → Stands b core s → (o : Option Connection) → FoundPair (StandsFor (around b s)) (Some k) o → Stands b core (route_all Own (joined_among (option_to_list o)) m s)
    by b s h None f = absurd f
    by b s h (Some c) f = subst (λ (p : Option ℕ). Stands b core (route_all Own (cons_option (option_map (λ screen. Client c.serial) p) []) m s)) (sym (ap joined_screen (sym f.phase) ∙ off)) h

pub there-at : (cs : List Connection) (i : ℕ) (c : Connection) → slice_get cs i ≡ Some c → list_any (has_serial c.serial) cs ≡ true
there-at [] i c e = absurd (let x : ⊥ = cc in x)
there-at (d ∷ cs) zero c e = first d c (let is : d ≡ c = cc in is) (list_any (has_serial c.serial) cs)
  where
    first : (d c : Connection) → d ≡ c → (rest : Bool) → ((d.serial == c.serial) || rest) ≡ true
    first d c is rest = let same : d.serial ≡ c.serial = ap (λ (x : Connection). x.serial) is in grind (arith, same)
there-at (d ∷ cs) (suc i) c e = later (has_serial c.serial d) (there-at cs i c e)
  where
    later : (b : Bool) → list_any (has_serial c.serial) cs ≡ true → (b || list_any (has_serial c.serial) cs) ≡ true
    later true h = refl
    later false h = h

pub told-joined : (old new : ServerCore) (m : Msg) (i serial screen : ℕ) (k : kept.Connection) → Some k ≡ slice_get old.table i → serial ≡ k.serial → joined_screen (phase_of k.phase) ≡ Some screen → LeadsWhere (λ s. IsThere s (Client serial)) old new (route Own (Client serial) m) → Leads old new (tell_at i m)
told-joined old new m i serial screen k e of is leads = λ b s h. by b s h (slice_get s.connections i) refl (pair-at b old s i (Some k) e h)
  where
    by : (b : Beside) (s : State) → Stands b old s → (o : Option Connection) → slice_get s.connections i ≡ o → FoundPair (StandsFor (around b s)) (Some k) o → Stands b new (route_all Own (joined_among (option_to_list o)) m s)
    by b s h None q f = absurd f
    by b s h (Some c) q f =
        let same : serial ≡ c.serial = of ∙ f.serial in
        subst (λ (p : Option ℕ). Stands b new (route_all Own (cons_option (option_map (λ n. Client c.serial) p) []) m s)) (sym (ap joined_screen (sym f.phase) ∙ is))
        (subst (λ n. Stands b new (route Own (Client n) m s)) same (leads b s (subst (λ n. IsThere s (Client n)) (sym same) (there-at s.connections i c q)) h))

-- ---- one after another

-- those among so many connections
abbrev pub tells : ℕ → Msg → State → State
tells n m s = route_all Own (joined_among (take n s.connections)) m s

pub tells-none : (core : ServerCore) (m : Msg) → Leads core core (tells 0 m)
tells-none core m = λ b s h. h

pub same-connections : (ts : List Target) (m : Msg) (s : State) → (route_all Own ts m s).connections ≡ s.connections
same-connections ts m s = for_each-keeps (λ t. t.connections ≡ s.connections) ts (λ t. route Own t m) (λ t u k. k) s refl

pub tells-more : (old now new : ServerCore) (n : ℕ) (m : Msg) → Leads old now (tells n m) → Leads now new (tell_at n m) → Leads old new (tells (n + 1) m)
tells-more old now new n m so_far leads = λ b s h.
    let one : List Target = joined_among (option_to_list (slice_get s.connections n)) in
    let more : joined_among (take (n + 1) s.connections) ≡ joined_among (take n s.connections) ++ one = ap joined_among (take-one s.connections n) ∙ filter_map-append (λ (c : Connection). option_map (λ screen. Client c.serial) (screen_in c)) (take n s.connections) (option_to_list (slice_get s.connections n)) in
    subst (λ t. Stands b new t) (ap (λ cs. route_all Own (joined_among (option_to_list (slice_get cs n))) m (tells n m s)) (same-connections (joined_among (take n s.connections)) m s) ∙ (sym (for_each-append (joined_among (take n s.connections)) one (λ t. route Own t m) s) ∙ ap (λ ts. route_all Own ts m s) (sym more)))
    (leads b (tells n m s) (so_far b s h))

pub tells-all : (old now : ServerCore) (n : ℕ) (m : Msg) → n ≡ length old.table → Leads old now (tells n m) → Leads old now (λ s. route_all Own (joined_clients s) m s)
tells-all old now n m e so_far = λ b s h.
    let many : length s.connections ≡ n = sym (pairs-length (StandsFor (around b s)) 0 old.table s.connections h.connections) ∙ sym e in
    subst (λ cs. Stands b now (route_all Own (joined_among cs) m s)) (take_all n s.connections (omega (arith, many))) (so_far b s h)

-- ---- who is joined

any_found : {A : Type 0} (t : A → Bool) (xs : List A) → is_some (find t xs) ≡ list_any t xs
any_found t [] = refl
any_found t (x ∷ xs) = by (t x) (any_found t xs)
  where
    by : (b : Bool) → is_some (find t xs) ≡ list_any t xs → is_some (cond b (Some x) (find t xs)) ≡ (b || list_any t xs)
    by true e = refl
    by false e = e

-- a screen that isn't the primary
pub other-joined : (b : Beside) (core : ServerCore) (s : State) (n primary : ℕ) (there : Bool) → primary ≡ s.primary → (n ≡ primary → ⊥) → there ≡ is_some (find (tables.is_joined_as n) core.table) → Stands b core s → there ≡ is_screen_joined s n
other-joined b core s n primary there e other is h =
    is ∙ (any_found (tables.is_joined_as n) core.table ∙ (ap (λ x. x || list_any (tables.is_joined_as n) core.table) (sym (apart n primary other)) ∙ set-joined b core s n primary e h))
  where
    apart : (n m : ℕ) → (n ≡ m → ⊥) → (n == m) ≡ false
    apart n m d = false_from_ne_true (n == m) (λ same. d (eqb-true n m same))
