-- What each happening leads to, in the states that a server serves.
use Rattle.std.specs.Prelude.{◌≡◌, refl, ℕ, ◌+◌, ◌^◌, ◌<◌, ◌≤◌, ◌==◌, suc, Bool, true, false, cond, List, [], ◌∷◌, length, All, Option, Some, None, IfSome}
use Rattle.std.specs.List.{find}
use Rattle.std.specs.Option.{option_map_or}
use Rattle.std.proofs.Common.{arith}
use Rattle.machine.specs.Connections.{Connection, has_serial, is_live}
use Rattle.machine.specs.States.{State}
use Rattle.machine.specs.Screens.{lives}
use Rattle.machine.specs.Targets.{Client, same_target}
use Rattle.machine.specs.Happenings as machine
use Rattle.machine.specs.Happenings.{IsOpen}
use Rattle.machine.specs.Steps.{step, close}
use Rattle.machine.specs.Acceptance.{accept}
use Rattle.reached_states.specs.NewSerials.{IsNewSerial}
use Rattle.reached_states.proofs.NewSerials.{new-is-untold}
use Rattle.reached_states.proofs.OpenAfter.{closing-is-open}
use Rattle.reached_states.proofs.ActiveScreens.{active-is-joined}
use Rattle.connection_table.specs.declared.connection.Connection as kept
use Rattle.connection_table.specs.Tables.{is_of}
use Rattle.server_engine.specs.Engines.{Steps, ClosesParting}
use Rattle.server_core.specs.declared.server.ServerCore.{ServerCore}
use Rattle.server_core.specs.Accepting.{AllBelow, IsNew}
use Rattle.server_core.specs.Driving.{serves_in, departs_in}
use Rattle.server_core.specs.Leading.{Leads}
use Rattle.server_core.specs.Taking.{queued_in, taken_in}
use Rattle.server_core.specs.Serving.{Serves, Departs}
use Rattle.server_core.specs.Targets.{IsThere}
use Rattle.server_core.specs.Standing.{Beside, Stands, IsBlank}
use Rattle.server_core.proofs.Besides.{only_live, stands-only, only-blank, rests-only}
use Rattle.server_core.proofs.Driven.{leads-served}

pub steps-leads : (old new : ServerCore) (h : machine.Happening) → Leads old new (λ s. step s h) → Steps serves_in old new h
steps-leads old new h leads = λ o latest front s reached allowed served. leads-served old new (λ t. step t h) leads front s served

-- ---- a new serial

all_below : (n : ℕ) (cs : List Connection) → All (λ (c : Connection). c.serial < n) cs → AllBelow n cs
all_below n [] h = tt
all_below n (c ∷ cs) h = (h 0 c (omega arith), all_below n cs (λ k d l. h (suc k) d (omega arith)))

new-serial : (n : ℕ) (s : State) → IsNewSerial n s → IsNew n s
new-serial n s h = record { some = h.positive; above = all_below n s.connections h.above; untold = h.untold }

above_none : (n : ℕ) (cs : List Connection) → AllBelow n cs → option_map_or is_live (find (has_serial n) cs) false ≡ false
above_none n [] h = refl
above_none n (c ∷ cs) h = by (c.serial == n) (other c.serial n h.0) (above_none n cs h.1)
  where
    other : (m n : ℕ) → m < n → (m == n) ≡ false
    other m n h = grind arith

    by : (b : Bool) → b ≡ false → option_map_or is_live (find (has_serial n) cs) false ≡ false → option_map_or is_live (cond b (Some c) (find (has_serial n) cs)) false ≡ false
    by true e rest = absurd (let x : ⊥ = cc in x)
    by false e rest = rest

pub steps-joined : (old new : ServerCore) (n : ℕ) → ((b : Beside) (s : State) → IsBlank n b → IsNew n s → Stands b old s → Stands b new (accept n s)) → Steps serves_in old new (machine.Joined n)
steps-joined old new n accepts = λ o latest front s reached allowed h.
    let fresh : IsNew n s = new-serial n s (new-is-untold o latest s n reached allowed) in
    let off : lives s n ≡ false = above_none n s.connections fresh.above in
    record {
      beside = only_live s h.beside;
      front_is = h.front_is;
      rests = rests-only s h.beside (λ m e. h.rests m);
      stands = accepts (only_live s h.beside) s (only-blank s h.beside n off) fresh (stands-only (λ t. IsThere t t.active) h.beside old s h.stands);
    }

-- ---- closings

pub closes-serving : (old new : ServerCore) (n : ℕ) → ((front : List ℕ) (s : State) → IsOpen s n → same_target s.active (Client n) ≡ false → Serves front old s → Serves front new (close n s)) → ClosesParting serves_in old new n
closes-serving old new n closes = λ o latest front s reached e h. closes front s (closing-is-open s n e) ((active-is-joined o latest s reached).closing_other n e) h

pub closes-departing : (old new : ServerCore) (n : ℕ) → ((front : List ℕ) (s : State) → IsOpen s n → Departs front old s → Departs front new (close n s)) → Steps departs_in old new (machine.Closed n)
closes-departing old new n closes = λ o latest front s reached allowed h. closes front s allowed h

-- ---- takings

-- fewer than 2^63 are taken
pub room-left : (core : ServerCore) (n count : ℕ) → IfSome (find (is_of n) core.table) (λ c. c.queue.taken + length c.queue.untaken < 2 ^ 63) → count ≤ length (queued_in core n) → taken_in core n + count < 2 ^ 63
room-left core n count = by (find (is_of n) core.table)
  where
    by : (o : Option kept.Connection) → IfSome o (λ c. c.queue.taken + length c.queue.untaken < 2 ^ 63) → count ≤ length (option_map_or (λ (k : kept.Connection). k.queue.untaken) o []) → option_map_or (λ (k : kept.Connection). k.queue.taken) o 0 + count < 2 ^ 63
    by None h le = omega arith
    by (Some k) h le = omega arith
