-- What holds at the start, and goes on holding at each happening that may come, holds of every state that is reached.
use Rattle.std.specs.Prelude.{ℕ, List, [], ◌∷◌}
use Rattle.std.proofs.Common.{sym, subst}
use Rattle.machine.specs.States.{State}
use Rattle.machine.specs.Happenings.{Happening, IsAllowed, latest_after}
use Rattle.machine.specs.Steps.{step, run}
use Rattle.machine.specs.Runs.{AreAllowed}
use Rattle.machine.proofs.Invariant.{On}
use Rattle.machine.proofs.BelowLatest.{BelowLatest}
use Rattle.machine.proofs.Runs.{step-below, start-below}
use Rattle.reached_states.specs.Reaching.{Origin, start_of, latest_from, Reached}

abbrev pub IsKept : (ℕ → State → Type 0) → Type 0
IsKept P = (latest : ℕ) (s : State) (h : Happening) → IsAllowed latest s h → P latest s → P (latest_after latest h) (step s h)

along : (P : ℕ → State → Type 0) → IsKept P → (latest : ℕ) (s : State) (hs : List Happening) → AreAllowed latest s hs → P latest s → P (latest_from latest hs) (run hs s)
along P next latest s [] a h = h
along P next latest s (x ∷ hs) a h = along P next (latest_after latest x) (step s x) hs a.1 (next latest s x a.0 h)

pub reached-all : (P : ℕ → State → Type 0) → IsKept P → (o : Origin) (latest : ℕ) (s : State) → P 0 (start_of o) → Reached o latest s → P latest s
reached-all P next o latest s first r =
    let hs : List Happening = r.happenings in
    subst (λ n. P n s) (sym r.by.latest_is) (subst (λ t. P (latest_from 0 hs) t) (sym r.by.state) (along P next 0 (start_of o) hs r.by.allowed first))

-- serials are up to the latest one
pub reached-below : (o : Origin) (latest : ℕ) (s : State) → Reached o latest s → On (BelowLatest latest) s
reached-below o latest s r = reached-all (λ n t. On (BelowLatest n) t) step-below o latest s (start-below o.config o.script o.now) r

-- and what rests on that
pub reached-all-below : (P : ℕ → State → Type 0) → ((latest : ℕ) (s : State) (h : Happening) → IsAllowed latest s h → On (BelowLatest latest) s → P latest s → P (latest_after latest h) (step s h)) → (o : Origin) (latest : ℕ) (s : State) → P 0 (start_of o) → Reached o latest s → P latest s
reached-all-below P next o latest s first r =
    (reached-all (λ n t. On (BelowLatest n) t × P n t) (λ n t h a k. (step-below n t h a k.0, next n t h a k.0 k.1)) o latest s (start-below o.config o.script o.now, first) r).1
