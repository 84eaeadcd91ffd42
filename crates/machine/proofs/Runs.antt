-- What holds after every list of happenings that may come.
use Rattle.std.specs.Prelude.{◌≡◌, refl, ℕ, ◌<◌, nat_le, Bool, true, false, ◌&&◌, ◌||◌, length, List, [], ◌∷◌}
use Rattle.std.specs.List.{list_any, list_all}
use Rattle.std.proofs.Common.{arith, subst, sym, ◌∙◌, inr}
use Rattle.std.proofs.lemmas.Bool.Decides.{nat_tests}
use Rattle.std.proofs.lemmas.List.Folds.{list_any-append, list_all-append}
use Rattle.share_base.proofs.ListTests.{all_weaker}
use Rattle.message_codec.specs.declared.messages.Msg.TheVariants as msg
use Rattle.screen_config.specs.Configurations.{Configuration}
use Rattle.hello_states.specs.declared.part_cause.PartCause.TheVariants as cause
use Rattle.machine.specs.Scripts.{Script}
use Rattle.machine.specs.Targets.{Target, Primary, Client, Own, Origin, same_target}
use Rattle.machine.specs.Connections.{fresh, has_serial}
use Rattle.machine.specs.States.{State}
use Rattle.machine.specs.Queues.{messages_in, messages_for}
use Rattle.machine.specs.Partings.{part}
use Rattle.machine.specs.Acceptance.{start, opened, greet, accept, most_open}
use Rattle.machine.specs.Happenings.{Happening, Joined, Got, Ended, Failed, Took, Moment, Closed, IsAllowed, latest_after}
use Rattle.machine.specs.Steps.{takes, step, run}
use Rattle.machine.specs.Runs.{AreAllowed}
use Rattle.machine.specs.KeyButtons.{is_key_button, pressed_by_rule, pressed_by_line}
use Rattle.machine.proofs.Rules.{choose-keeps}
use Rattle.machine.proofs.LeftDown.{IsQuiet, quiet-none, since-none}
use Rattle.machine.proofs.Live.{lives_as, IsLive}
use Rattle.machine.proofs.Invariant.{View, On, IsInvariant}
use Rattle.machine.proofs.KeepPartings.{part-keeps}
use Rattle.machine.proofs.KeepSteps.{takes-tame, got-keeps, breaks-keeps, close-keeps, moment-keeps}
use Rattle.machine.proofs.OnlyActive.{OnlyActive, IsOnlyActive}
use Rattle.machine.proofs.OnlyActive as only
use Rattle.machine.proofs.AtKeyButtons.{AtKeyButtons}
use Rattle.machine.proofs.AtKeyButtons as keys
use Rattle.machine.proofs.BelowLatest.{BelowLatest, AreBelow, is_upto, connection_upto, entry_upto, untold}
use Rattle.machine.proofs.BelowLatest as below
use Rattle.machine.proofs.NoneSlow.{NoneSlow, got-none, breaks-none, change-none, close-none, moment-none}
use Rattle.machine.proofs.KeepSteps.{takes-steady}
use Rattle.machine.proofs.FirstEntries.{accept-none}

-- ---- a new connection

pub new-live : (serial : ℕ) (s : State) → IsLive (opened serial s).connections (Client serial)
new-live serial s = list_any-append (lives_as serial) s.connections (fresh serial s.at ∷ []) ∙ later (list_any (lives_as serial) s.connections) (grind arith)
  where
    later : (b : Bool) → lives_as serial (fresh serial s.at) ≡ true → (b || (lives_as serial (fresh serial s.at) || false)) ≡ true
    later b h = grind (arith, h)

-- what the opened state keeps, acceptance keeps
pub accept-keeps : {key : ℕ → Bool} {allowed : Origin → Bool} {P : View → Type 0} (i : IsInvariant key allowed P) (serial : ℕ) (s : State) → On P (opened serial s) → On P (accept serial s)
accept-keeps {P = P} i serial s h = choose-keeps (On P) (nat_le most_open (length s.connections)) (part cause.Full serial) (greet serial) (opened serial s) (λ e. part-keeps i cause.Full serial (opened serial s) (new-live serial s) h) (λ e. i.plain Own i.own (Client serial) (msg.Hello 1 6) refl (opened serial s) (inr (new-live serial s)) h)

upto_more : (latest serial : ℕ) (t : Target) → latest < serial → is_upto latest t ≡ true → is_upto serial t ≡ true
upto_more latest serial Primary a h = refl
upto_more latest serial (Client n) a h = grind (arith, nat_tests, a, h)

opened_below : (latest serial : ℕ) (s : State) → latest < serial → On (BelowLatest latest) s → On (BelowLatest serial) (opened serial s)
opened_below latest serial s a h = record {
  active = upto_more latest serial s.active a h.active;
  connections = list_all-append (connection_upto serial) s.connections (fresh serial s.at ∷ []) ∙ ends (all_weaker (connection_upto latest) (connection_upto serial) (λ c k. upto_more latest serial (Client c.serial) a k) s.connections h.connections);
  routed = all_weaker (entry_upto latest) (entry_upto serial) (λ e k. upto_more latest serial e.target a k) s.routed h.routed;
}
  where
    ends : list_all (connection_upto serial) s.connections ≡ true → (list_all (connection_upto serial) s.connections && (nat_le serial serial && true)) ≡ true
    ends k = grind (arith, nat_tests, k)

-- who lives after it is the new one, or lived before
older_live : (serial n : ℕ) (s : State) → IsLive (opened serial s).connections (Client n) → has_serial n (fresh serial s.at) ≡ false → IsLive s.connections (Client n)
older_live serial n s h k = by (list_any (lives_as n) s.connections) (sym (list_any-append (lives_as n) s.connections (fresh serial s.at ∷ [])) ∙ h)
  where
    by : (b : Bool) → (b || (lives_as n (fresh serial s.at) || false)) ≡ true → b ≡ true
    by true e = refl
    by false e = grind (arith, e, k)

opened_only : (latest serial : ℕ) (s : State) → latest < serial → On (BelowLatest latest) s → On OnlyActive s → On OnlyActive (opened serial s)
opened_only latest serial s a below h = record { quiet = one; since = h.since }
  where
    new : (n : ℕ) → (b : Bool) → has_serial n (fresh serial s.at) ≡ b → same_target (Client n) s.active ≡ false → IsLive (opened serial s).connections (Client n) → IsQuiet (messages_for (Client n) s.routed)
    new n true e d on =
        let is : serial ≡ n = grind (arith, e) in
        let above : latest < n = subst (λ m. latest < m) is a in
        subst (λ es. IsQuiet (messages_in es)) (sym (untold latest n s above below)) quiet-none
    new n false e d on = h.quiet (Client n) d (older_live serial n s on e)

    one : (t : Target) → same_target t s.active ≡ false → IsLive (opened serial s).connections t → IsQuiet (messages_for t s.routed)
    one Primary d on = h.quiet Primary d tt
    one (Client n) d on = new n (has_serial n (fresh serial s.at)) refl d on

-- ---- each happening

pub step-below : (latest : ℕ) (s : State) (h : Happening) → IsAllowed latest s h → On (BelowLatest latest) s → On (BelowLatest (latest_after latest h)) (step s h)
step-below latest s (Joined serial) a k = accept-keeps (below.invariant serial) serial s (opened_below latest serial s a k)
step-below latest s (Got serial piece) a k = got-keeps (below.invariant latest) serial piece s k
step-below latest s (Ended serial) a k = breaks-keeps (below.invariant latest) cause.Ended serial s k
step-below latest s (Failed serial) a k = breaks-keeps (below.invariant latest) cause.Failed serial s k
step-below latest s (Took serial count) a k = below.took latest serial (takes count) (takes-tame count) s k
step-below latest s (Moment t) a k = moment-keeps (below.invariant latest) (λ n. refl) (λ n. refl) t s k
step-below latest s (Closed serial) a k = close-keeps (below.invariant latest) serial s (below.closed latest serial s k)

pub step-only : (latest : ℕ) (s : State) (h : Happening) → IsAllowed latest s h → On (BelowLatest latest) s → On OnlyActive s → On OnlyActive (step s h)
step-only latest s (Joined serial) a b k = accept-keeps only.invariant serial s (opened_only latest serial s a b k)
step-only latest s (Got serial piece) a b k = got-keeps only.invariant serial piece s k
step-only latest s (Ended serial) a b k = breaks-keeps only.invariant cause.Ended serial s k
step-only latest s (Failed serial) a b k = breaks-keeps only.invariant cause.Failed serial s k
step-only latest s (Took serial count) a b k = only.took serial (takes count) (takes-tame count) s k
step-only latest s (Moment t) a b k = moment-keeps only.invariant (λ n. refl) (λ n. refl) t s k
step-only latest s (Closed serial) a b k = close-keeps only.invariant serial s (only.closed serial s k)

pub step-keys : (s : State) (h : Happening) → On AtKeyButtons s → On AtKeyButtons (step s h)
step-keys s (Joined serial) k = accept-keeps keys.invariant serial s (record { routed = k.routed; rules = k.rules; script = k.script })
step-keys s (Got serial piece) k = got-keeps keys.invariant serial piece s k
step-keys s (Ended serial) k = breaks-keeps keys.invariant cause.Ended serial s k
step-keys s (Failed serial) k = breaks-keeps keys.invariant cause.Failed serial s k
step-keys s (Took serial count) k = record { routed = k.routed; rules = k.rules; script = k.script }
step-keys s (Moment t) k = moment-keeps keys.invariant (λ n. refl) (λ n. refl) t s k
step-keys s (Closed serial) k = close-keeps keys.invariant serial s k

pub step-none : (latest : ℕ) (s : State) (h : Happening) → IsAllowed latest s h → On (BelowLatest latest) s → NoneSlow s → NoneSlow (step s h)
step-none latest s (Joined serial) a b k = accept-none latest serial s a b k
step-none latest s (Got serial piece) a b k = got-none serial piece s k
step-none latest s (Ended serial) a b k = breaks-none cause.Ended serial s
step-none latest s (Failed serial) a b k = breaks-none cause.Failed serial s
step-none latest s (Took serial count) a b k = change-none serial (takes count) (takes-steady count) s k
step-none latest s (Moment t) a b k = moment-none t s k
step-none latest s (Closed serial) a b k = close-none serial s k

-- ---- all of them

pub run-none : (latest : ℕ) (s : State) (hs : List Happening) → AreAllowed latest s hs → On (BelowLatest latest) s → NoneSlow s → NoneSlow (run hs s)
run-none latest s [] a b k = k
run-none latest s (h ∷ hs) a b k = run-none (latest_after latest h) (step s h) hs a.1 (step-below latest s h a.0 b) (step-none latest s h a.0 b k)

pub run-only : (latest : ℕ) (s : State) (hs : List Happening) → AreAllowed latest s hs → On (BelowLatest latest) s → On OnlyActive s → On OnlyActive (run hs s)
run-only latest s [] a b k = k
run-only latest s (h ∷ hs) a b k = run-only (latest_after latest h) (step s h) hs a.1 (step-below latest s h a.0 b) (step-only latest s h a.0 b k)

pub run-keys : (s : State) (hs : List Happening) → On AtKeyButtons s → On AtKeyButtons (run hs s)
run-keys s [] k = k
run-keys s (h ∷ hs) k = run-keys (step s h) hs (step-keys s h k)

-- ---- at the start

pub start-below : (config : Configuration) (script : Script) (now : ℕ) → On (BelowLatest 0) (start config script now)
start-below config script now = record { active = refl; connections = refl; routed = refl }

nobody : (t : Target) → same_target t Primary ≡ false → IsLive [] t → IsQuiet (messages_for t [])
nobody Primary d on = grind (arith, d)
nobody (Client n) d on = grind (arith, on)

pub start-only : (config : Configuration) (script : Script) (now : ℕ) → On OnlyActive (start config script now)
start-only config script now = record { quiet = nobody; since = since-none }

pub start-keys : (config : Configuration) (script : Script) (now : ℕ) → list_all (pressed_by_rule is_key_button) config.hotkeys ≡ true → list_all (pressed_by_line is_key_button) script.lines ≡ true → On AtKeyButtons (start config script now)
start-keys config script now r l = record { routed = refl; rules = r; script = l }

pub start-none : (config : Configuration) (script : Script) (now : ℕ) → NoneSlow (start config script now)
start-none config script now = refl
