-- Connections that are told goodbye one after another.
use Rattle.std.specs.Prelude.{◌≡◌, refl, ℕ, ◌+◌, true, List, length, take, slice_get, Option, Some, None}
use Rattle.std.specs.Option.{option_map, option_to_list}
use Rattle.std.proofs.Common.{arith, sym, ap, ◌∙◌, subst}
use Rattle.std.proofs.lemmas.List.{take_all, length-map}
use Rattle.std.proofs.lemmas.Option.{slice_get-map}
use Rattle.machine.specs.Connections.{Connection, serials}
use Rattle.machine.specs.States.{State}
use Rattle.machine.specs.Combining.{for_each}
use Rattle.machine.specs.Running.{say_bye, quit}
use Rattle.machine.proofs.Rules.{for_each-keeps}
use Rattle.connection_table.specs.declared.connection.Connection as kept
use Rattle.connection_table.specs.Standing.{StandsFor}
use Rattle.connection_table.proofs.Pairs.{FoundPair, pairs-length}
use Rattle.server_core.specs.declared.server.ServerCore.{ServerCore}
use Rattle.server_core.specs.Goodbyes.{say_bye_at}
use Rattle.server_core.specs.Standing.{Beside, around, Stands}
use Rattle.server_core.specs.Leading.{Leads}
use Rattle.server_core.proofs.Kept.{stands-quit}
use Rattle.server_core.proofs.Indexed.{for_each-one, pairs-at}
use Rattle.server_core.proofs.Steady.{HasSerials, steady-serials, say_bye-steady}

-- ---- one

serial_at : (R : kept.Connection → Connection → Type 0) → ((k : kept.Connection) (c : Connection) → R k c → k.serial ≡ c.serial) → (cs : List Connection) (i : ℕ) (o : Option kept.Connection) → FoundPair R o (slice_get cs i) → slice_get (serials cs) i ≡ option_map (λ (k : kept.Connection). k.serial) o
serial_at R same cs i o f = slice_get-map (λ (c : Connection). c.serial) cs i ∙ by o (slice_get cs i) f
  where
    by : (p : Option kept.Connection) (q : Option Connection) → FoundPair R p q → option_map (λ (c : Connection). c.serial) q ≡ option_map (λ (k : kept.Connection). k.serial) p
    by None None f = refl
    by None (Some c) f = absurd f
    by (Some k) None f = absurd f
    by (Some k) (Some c) f = ap Some (sym (same k c f))

-- the serial of that index
pub serials-at : (b : Beside) (core : ServerCore) (s : State) (i : ℕ) → Stands b core s → slice_get (serials s.connections) i ≡ option_map (λ (k : kept.Connection). k.serial) (slice_get core.table i)
serials-at b core s i h = serial_at (StandsFor (around b s)) (λ k c r. r.serial) s.connections i (slice_get core.table i) (pairs-at (StandsFor (around b s)) 0 core.table s.connections i h.connections)

pub bye-none : (core : ServerCore) (i : ℕ) → None ≡ slice_get core.table i → Leads core core (say_bye_at i)
bye-none core i e = λ b s h. subst (λ (o : Option ℕ). Stands b core (for_each (option_to_list o) say_bye s)) (sym (serials-at b core s i h ∙ ap (option_map (λ (k : kept.Connection). k.serial)) (sym e))) h

pub bye-some : (old new : ServerCore) (i serial : ℕ) (k : kept.Connection) → Some k ≡ slice_get old.table i → serial ≡ k.serial → Leads old new (say_bye serial) → Leads old new (say_bye_at i)
bye-some old new i serial k e of leads = λ b s h. subst (λ (o : Option ℕ). Stands b new (for_each (option_to_list o) say_bye s)) (sym (serials-at b old s i h ∙ (ap (option_map (λ (x : kept.Connection). x.serial)) (sym e) ∙ ap Some (sym of)))) (leads b s h)

-- ---- one after another

-- so many of them
abbrev pub byes : ℕ → State → State
byes n s = for_each (take n (serials s.connections)) say_bye (record s { has_quit = true })

pub byes-none : (core : ServerCore) → Leads core (record core { has_quit = true }) (byes 0)
byes-none core = λ b s h. stands-quit b core s h

byes_serials : (n : ℕ) (s : State) → serials (byes n s).connections ≡ serials s.connections
byes_serials n s = for_each-keeps (HasSerials (serials s.connections)) (take n (serials s.connections)) say_bye (say_bye-steady (steady-serials (serials s.connections))) (record s { has_quit = true }) refl

pub byes-more : (old now new : ServerCore) (n : ℕ) → Leads old now (byes n) → Leads now new (say_bye_at n) → Leads old new (byes (n + 1))
byes-more old now new n so_far leads = λ b s h.
    subst (λ t. Stands b new t) (ap (λ ns. for_each (option_to_list (slice_get ns n)) say_bye (byes n s)) (byes_serials n s) ∙ sym (for_each-one (serials s.connections) n say_bye (record s { has_quit = true })))
    (leads b (byes n s) (so_far b s h))

pub byes-all : (old now : ServerCore) (n : ℕ) → n ≡ length old.table → Leads old now (byes n) → Leads old now quit
byes-all old now n e so_far = λ b s h.
    let many : length (serials s.connections) ≡ n = length-map s.connections (λ (c : Connection). c.serial) ∙ (sym (pairs-length (StandsFor (around b s)) 0 old.table s.connections h.connections) ∙ sym e) in
    subst (λ ns. Stands b now (for_each ns say_bye (record s { has_quit = true }))) (take_all n (serials s.connections) (omega (arith, many))) (so_far b s h)
