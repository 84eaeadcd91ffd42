-- The bytes that a connection is offered are those that it hasn't taken.
use Rattle.std.specs.Prelude.{◌≡◌, refl, ℕ, ◌≤◌, ◌<◌, ◌==◌, Bool, true, false, not, ◌&&◌, List, [], ◌∷◌, length, drop, Option, Some, None, unwrap_or}
use Rattle.std.specs.Option.{option_map, option_map_or}
use Rattle.std.proofs.Common.{arith, sym, ap, ◌∙◌, subst}
use Rattle.std.proofs.lemmas.Bool.Decides.{nat_tests}
use Rattle.std.proofs.lemmas.List.{length-drop}
use Rattle.machine.specs.Connections.{Connection, has_serial}
use Rattle.machine.specs.States.{State}
use Rattle.machine.specs.Screens.{connection, has_untaken, taken_by}
use Rattle.machine.specs.Queues.{queue, total}
use Rattle.machine.proofs.Finding.{found-passes}
use Rattle.machine.proofs.GrowingQueues.{queue-length}
use Rattle.send_queue.specs.Standing.{rest_of}
use Rattle.attentive_acts.specs.Flags.{has_more}
use Rattle.attentive_acts.specs.Judging.{untaken}
use Rattle.server_engine.specs.Engines.{AreNext}
use Rattle.server_core.specs.Taking.{untaken_by}

equal : (m n : ℕ) → (m == n) ≡ true → m ≡ n
equal m n h = grind (arith, h)

-- all but those that were taken
rest_next : (bytes : List ℕ) (dropped : Bool) (taken many : ℕ) → many ≡ length bytes → taken ≤ length bytes → (b : Bool) → (not dropped && not (many == taken)) ≡ b → (s : State) (n : ℕ) → untaken s n ≡ drop taken bytes → AreNext b s n (rest_of dropped taken bytes)
rest_next bytes true taken many e le true f s n u = absurd (let x : ⊥ = cc in x)
rest_next bytes true taken many e le false f s n u = refl
rest_next bytes false taken many e le true f s n u =
    let apart : (many == taken) ≡ false = grind (arith, f) in
    let long = length-drop taken bytes in
    let some : 0 < length (drop taken bytes) = grind (arith, nat_tests, apart, long, e, le) in
    (sym u, some)
rest_next bytes false taken many e le false f s n u =
    let same : (many == taken) ≡ true = grind (arith, f) in
    let is : many ≡ taken = equal many taken same in
    none (drop taken bytes) (let long = length-drop taken bytes in omega arith)
  where
    none : (xs : List ℕ) → length xs ≡ 0 → xs ≡ []
    none [] h = refl
    none (x ∷ xs) h = absurd (let y : ⊥ = omega arith in y)

pub next-untaken : (s : State) (n : ℕ) → taken_by s n ≤ length (queue s.routed n) → AreNext (has_more s n) s n (untaken_by s n)
next-untaken s n le = by (connection s n) refl
  where
    by : (o : Option Connection) → connection s n ≡ o → AreNext (option_map_or (has_untaken s) o false) s n (option_map_or (λ (c : Connection). rest_of c.is_dropped c.taken (queue s.routed n)) o [])
    by None e = refl
    by (Some c) e =
        let is : c.serial ≡ n = equal c.serial n (found-passes (has_serial n) s.connections c e) in
        let taken : taken_by s n ≡ c.taken = ap (λ o. unwrap_or (option_map (λ (d : Connection). d.taken) o) 0) e in
        rest_next (queue s.routed n) c.is_dropped c.taken (total s.routed c.serial) (ap (total s.routed) is ∙ sym (queue-length s.routed n)) (subst (λ m. m ≤ length (queue s.routed n)) taken le) (has_untaken s c) refl s n (ap (λ m. drop m (queue s.routed n)) taken)
