-- Timers that come to one connection after another.
use Rattle.std.specs.Prelude.{◌≡◌, refl, ℕ, ◌+◌, ◌<◌, ◌≤◌, nat_lt, true, false, List, [], ◌∷◌, length, map, take}
use Rattle.std.specs.List.{slice_get}
use Rattle.std.specs.Option.{option_map, option_to_list}
use Rattle.std.proofs.Common.{arith, sym, ap, ◌∙◌, subst}
use Rattle.std.proofs.lemmas.Bool.Decides.{nat_tests}
use Rattle.std.proofs.lemmas.List.{take_all, length-map}
use Rattle.std.proofs.lemmas.Option.{slice_get-map}
use Rattle.hello_states.specs.declared.part_cause.PartCause.TheVariants as cause
use Rattle.machine.specs.Connections.{Connection, serials}
use Rattle.machine.specs.States.{State}
use Rattle.machine.specs.Combining.{when, for_each, unchanged}
use Rattle.machine.specs.Screens.{connection}
use Rattle.machine.specs.Slow.{part_slow}
use Rattle.machine.specs.Timers.{sent_beat}
use Rattle.machine.proofs.Rules.{when-keeps, for_some-keeps, for_each-keeps}
use Rattle.connection_table.specs.declared.connection.Connection as kept
use Rattle.connection_table.specs.Standing.{StandsFor, Pairs}
use Rattle.connection_table.proofs.Pairs.{pairs-length}
use Rattle.server_core.specs.declared.server.ServerCore.{ServerCore}
use Rattle.server_core.specs.declared.timers.Timer.{Timer}
use Rattle.server_core.specs.declared.timers.Timer.TheVariants as timer
use Rattle.server_core.specs.Leading.{Leads}
use Rattle.server_core.specs.Standing.{Beside, around, Stands}
use Rattle.server_core.specs.Timing.{test_of, rule_of, serial_at, for_one, for_all, for_place}
use Rattle.server_core.proofs.Indexed.{for_each-one}
use Rattle.server_core.proofs.Steady.{HasSerials, steady-serials, part-steady, part_slow-steady}

-- ---- the serials that are kept

serials_kept : (R : kept.Connection → Connection → Type 0) → ((k : kept.Connection) (c : Connection) → R k c → k.serial ≡ c.serial) → (low : ℕ) (ks : List kept.Connection) (cs : List Connection) → Pairs R low ks cs → map (λ (k : kept.Connection). k.serial) ks ≡ serials cs
serials_kept R same low [] [] h = refl
serials_kept R same low [] (c ∷ cs) h = absurd h
serials_kept R same low (k ∷ ks) [] h = absurd h
serials_kept R same low (k ∷ ks) (c ∷ cs) h = ap (λ n. n ∷ map (λ (l : kept.Connection). l.serial) ks) (same k c h.1) ∙ ap (λ ns. c.serial ∷ ns) (serials_kept R same c.serial ks cs h.2)

pub serials-kept : (b : Beside) (core : ServerCore) (s : State) → Stands b core s → map (λ (k : kept.Connection). k.serial) core.table ≡ serials s.connections
serials-kept b core s h = serials_kept (StandsFor (around b s)) (λ k c r. r.serial) 0 core.table s.connections h.connections

pub serial-at : (b : Beside) (core : ServerCore) (s : State) (place : ℕ) → Stands b core s → option_map (λ (k : kept.Connection). k.serial) (slice_get core.table place) ≡ serial_at place s
serial-at b core s place h = sym (slice_get-map (λ (k : kept.Connection). k.serial) core.table place) ∙ ap (λ ns. slice_get ns place) (serials-kept b core s h)

-- ---- one after another

rule-serials : (t : Timer) (serial : ℕ) (ns : List ℕ) (s : State) → HasSerials ns s → HasSerials ns (rule_of t serial s)
rule-serials timer.Death serial ns s h = part-steady (steady-serials ns) cause.Dead serial s h
rule-serials timer.Silence serial ns s h = part-steady (steady-serials ns) cause.Silent serial s h
rule-serials timer.Beat serial ns s h = (steady-serials ns).changed serial (sent_beat s.at) (λ c. refl) s h

one-serials : (t : Timer) (serial : ℕ) (ns : List ℕ) (s : State) → HasSerials ns s → HasSerials ns (for_one t serial s)
one-serials t serial ns s h =
    for_some-keeps (HasSerials ns) (connection s serial) (λ c. when (test_of t s c) (λ u. part_slow (rule_of t serial u))) unchanged s
    (λ c e. when-keeps (HasSerials ns) (test_of t s c) (λ u. part_slow (rule_of t serial u)) (λ u k. part_slow-steady (steady-serials ns) (rule_of t serial u) (rule-serials t serial ns u k)) s h) h

-- those up to a place
abbrev pub up_to : Timer → ℕ → State → State
up_to t place s = for_each (take place (serials s.connections)) (for_one t) s

timed_next : (t : Timer) (place : ℕ) (s : State) → for_place t place (up_to t place s) ≡ up_to t (place + 1) s
timed_next t place s =
    let ns : List ℕ = serials s.connections in
    let same : HasSerials ns (up_to t place s) = for_each-keeps (HasSerials ns) (take place ns) (for_one t) (λ serial u k. one-serials t serial ns u k) s refl in
    ap (λ ms. for_each (option_to_list (slice_get ms place)) (for_one t) (up_to t place s)) same ∙ sym (for_each-one ns place (for_one t) s)

pub timed-more : (old now new : ServerCore) (t : Timer) (place : ℕ) → Leads old now (up_to t place) → Leads now new (for_place t place) → Leads old new (up_to t (place + 1))
timed-more old now new t place so_far leads = λ b s h. subst (λ u. Stands b new u) (timed_next t place s) (leads b (up_to t place s) (so_far b s h))

pub timed-all : (old now : ServerCore) (t : Timer) (place count : ℕ) → place ≡ count → count ≡ length old.table → Leads old now (up_to t place) → Leads old now (for_all t)
timed-all old now t place count end e so_far = λ b s h.
    let many : length (serials s.connections) ≤ place = let same = length-map s.connections (λ (c : Connection). c.serial) in let kept = pairs-length (StandsFor (around b s)) 0 old.table s.connections h.connections in omega arith in
    subst (λ ns. Stands b now (for_each ns (for_one t) s)) (take_all place (serials s.connections) many) (so_far b s h)

-- ---- places of a list

pub within-list : (i n : ℕ) → true ≡ nat_lt i n → i < n
within-list i n h = let test : nat_lt i n ≡ true = sym h in grind (arith, nat_tests, test)

pub past-list : (i n : ℕ) → false ≡ nat_lt i n → n ≤ i
past-list i n h = let test : nat_lt i n ≡ false = sym h in grind (arith, nat_tests, test)
