-- One more happening after those that led to a reached state.
use Rattle.std.specs.Prelude.{◌≡◌, refl, ℕ, List, [], ◌∷◌, ◌++◌}
use Rattle.std.proofs.Common.{ap, sym, subst, ◌∙◌}
use Rattle.machine.specs.States.{State}
use Rattle.machine.specs.Happenings.{Happening, IsAllowed, latest_after}
use Rattle.machine.specs.Steps.{step, run}
use Rattle.machine.specs.Runs.{AreAllowed}
use Rattle.reached_states.specs.Reaching.{start_of, latest_from, GoesOn}

run-more : (hs : List Happening) (h : Happening) (s : State) → run (hs ++ h ∷ []) s ≡ step (run hs s) h
run-more [] h s = refl
run-more (x ∷ hs) h s = run-more hs h (step s x)

latest-more : (latest : ℕ) (hs : List Happening) (h : Happening) → latest_from latest (hs ++ h ∷ []) ≡ latest_after (latest_from latest hs) h
latest-more latest [] h = refl
latest-more latest (x ∷ hs) h = latest-more (latest_after latest x) hs h

allowed-more : (latest : ℕ) (s : State) (hs : List Happening) (h : Happening) → AreAllowed latest s hs → IsAllowed (latest_from latest hs) (run hs s) h → AreAllowed latest s (hs ++ h ∷ [])
allowed-more latest s [] h a k = (k, tt)
allowed-more latest s (x ∷ hs) h a k = (a.0, allowed-more (latest_after latest x) (step s x) hs h a.1 k)

pub goes-on : GoesOn
goes-on o latest s h r k =
    let hs : List Happening = r.happenings in
    let here : IsAllowed (latest_from 0 hs) s h = subst (λ n. IsAllowed n s h) r.by.latest_is k in
    let there : IsAllowed (latest_from 0 hs) (run hs (start_of o)) h = subst (λ t. IsAllowed (latest_from 0 hs) t h) r.by.state here in
    record {
      happenings = hs ++ h ∷ [];
      by = record {
        allowed = allowed-more 0 (start_of o) hs h r.by.allowed there;
        state = ap (λ t. step t h) r.by.state ∙ sym (run-more hs h (start_of o));
        latest_is = ap (λ n. latest_after n h) r.by.latest_is ∙ sym (latest-more 0 hs h);
      };
    }
