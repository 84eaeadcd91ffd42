-- An invariant: who lives, and the active screen, was greeted first; and so was everybody who was told anything. Some
-- serials may be left out.
use Rattle.std.specs.Prelude.{◌≡◌, refl, ℕ, ◌<◌, Bool, true, false, ◌&&◌, ◌||◌, ◌==◌, nat_le, length, List, [], ◌∷◌, ◌++◌, Option}
use Rattle.std.specs.List.{list_any}
use Rattle.std.specs.Option.{option_and_then}
use Rattle.std.proofs.Common.{arith, ap, sym, subst, ◌∙◌, inl, inr}
use Rattle.std.proofs.lemmas.Bool.Decides.{nat_tests}
use Rattle.std.proofs.lemmas.List.Folds.{list_any-append}
use Rattle.message_codec.specs.declared.messages.Msg.{Msg}
use Rattle.message_codec.specs.declared.messages.Msg.TheVariants as msg
use Rattle.hello_states.specs.declared.part_cause.PartCause.TheVariants as cause
use Rattle.machine.specs.Targets.{Target, Primary, Client, Entry, Origin, Own, same_target}
use Rattle.machine.specs.Connections.{Connection, fresh, has_serial, changed, removed}
use Rattle.machine.specs.States.{State, Point}
use Rattle.machine.specs.Combining.{for_some, unchanged}
use Rattle.machine.specs.Screens.{screen_in}
use Rattle.machine.specs.Queues.{messages_in, messages_for}
use Rattle.machine.specs.Routing.{route, entry}
use Rattle.machine.specs.Switching.{entering, at_screen, tell_leaving}
use Rattle.machine.specs.Partings.{lose, parted, marked, part}
use Rattle.machine.specs.Acceptance.{most_open, opened, greet, accept}
use Rattle.machine.specs.Happenings.{Happening, Joined, Got, Ended, Failed, Took, Moment, Closed, IsAllowed}
use Rattle.machine.specs.Steps.{drops, takes, step}
use Rattle.machine.proofs.Rules.{choose-keeps}
use Rattle.machine.proofs.Targets.{same_target-refl, same_target-is}
use Rattle.machine.proofs.OfTargets.{messages-more}
use Rattle.machine.proofs.Live.{lives_as, IsLive, IsKnown, parted-tame, drops-tame, changed-live, removed-live}
use Rattle.machine.proofs.Invariant.{View, On, IsInvariant}
use Rattle.machine.proofs.AnyButton.{any, any_origin, rules-any, lines-any}
use Rattle.machine.proofs.BelowLatest.{BelowLatest, is_upto, untold}
use Rattle.machine.proofs.FirstEntries.{finds-new}
use Rattle.machine.proofs.KeepPartings.{marked-off}
use Rattle.machine.proofs.KeepSteps.{takes-tame, got-keeps, breaks-keeps, close-keeps, moment-keeps}
use Rattle.machine.proofs.Runs.{accept-keeps}
use Rattle.both_ends.specs.Greetings.{greeting}

-- the first one is the greeting
abbrev pub IsGreeted : List Msg → Type 0
IsGreeted [] = ⊥
IsGreeted (m ∷ later) = m ≡ greeting

-- where there is a first one
abbrev pub StartsGreeted : List Msg → Type 0
StartsGreeted [] = Unit {0}
StartsGreeted (m ∷ later) = m ≡ greeting

greeted-more : (ms : List Msg) (m : Msg) → IsGreeted ms → IsGreeted (ms ++ m ∷ [])
greeted-more [] m h = absurd h
greeted-more (x ∷ ms) m h = h

greeted-starts : (ms : List Msg) → IsGreeted ms → StartsGreeted ms
greeted-starts [] h = tt
greeted-starts (x ∷ ms) h = h

pub record AreGreeted (skip : ℕ → Bool) (active : Target) (cs : List Connection) (routed : List Entry) : Type 0 where
  pub live : (n : ℕ) → skip n ≡ false → IsLive cs (Client n) → IsGreeted (messages_for (Client n) routed)
  pub active_one : (n : ℕ) → skip n ≡ false → active ≡ Client n → IsGreeted (messages_for (Client n) routed)
  pub told : (n : ℕ) → skip n ≡ false → StartsGreeted (messages_for (Client n) routed)

abbrev pub Greeted : (ℕ → Bool) → View → Type 0
Greeted skip v = AreGreeted skip v.active v.connections v.routed

-- ---- one entry more

still : (n : ℕ) (routed : List Entry) (e : Entry) → IsGreeted (messages_for (Client n) routed) → IsGreeted (messages_for (Client n) (routed ++ e ∷ []))
still n routed e h = messages-more IsGreeted (Client n) routed e (λ d. h) (λ d. greeted-more (messages_for (Client n) routed) e.message h)

-- to one that was greeted
one : (skip : ℕ → Bool) (o : Origin) (t : Target) (m : Msg) (s : State) → ((n : ℕ) → skip n ≡ false → t ≡ Client n → IsGreeted (messages_for (Client n) s.routed)) → On (Greeted skip) s → On (Greeted skip) (route o t m s)
one skip o t m s known h = record {
  live = λ n k on. still n s.routed (entry o t m s) (h.live n k on);
  active_one = λ n k is. still n s.routed (entry o t m s) (h.active_one n k is);
  told = λ n k. messages-more StartsGreeted (Client n) s.routed (entry o t m s) (λ d. h.told n k) (λ d. greeted-starts (messages_for (Client n) s.routed ++ m ∷ []) (greeted-more (messages_for (Client n) s.routed) m (known n k (same_target-is t (Client n) d))));
}

known-greeted : (skip : ℕ → Bool) (s : State) (t : Target) → IsKnown s t → On (Greeted skip) s → (n : ℕ) → skip n ≡ false → t ≡ Client n → IsGreeted (messages_for (Client n) s.routed)
known-greeted skip s t k h n out is = elim k [
  | inl e ↦ h.active_one n out (sym e ∙ is)
  | inr on ↦ h.live n out (subst (IsLive s.connections) is on)
]

-- another screen is active
entered : (skip : ℕ → Bool) (o : Origin) (to : Target) (p : Point) (s : State) → ((n : ℕ) → skip n ≡ false → to ≡ Client n → IsGreeted (messages_for (Client n) s.routed)) → On (Greeted skip) s → On (Greeted skip) (route o to (entering p s) (at_screen to p s))
entered skip o to p s known h = one skip o to (entering p s) (at_screen to p s) known (record { live = h.live; active_one = known; told = h.told })

-- those that live now lived before
fewer : (skip : ℕ → Bool) (s : State) (cs : List Connection) → ((t : Target) → IsLive cs t → IsLive s.connections t) → On (Greeted skip) s → AreGreeted skip s.active cs s.routed
fewer skip s cs less h = record { live = λ n k on. h.live n k (less (Client n) on); active_one = h.active_one; told = h.told }

invariant : (skip : ℕ → Bool) → IsInvariant any any_origin (Greeted skip)
invariant skip = record {
  own = refl;
  rules = λ s h. rules-any s.config.hotkeys;
  script = λ s h. lines-any s.lines;
  plain = λ o a t m p s k h. one skip o t m s (known-greeted skip s t k h) h;
  input = λ o a m p b s h. one skip o s.active m s h.active_one h;
  switched = λ o a to p s on h.
      let left = one skip Own s.active msg.Leave s h.active_one h in
      entered skip o to p (tell_leaving s) (λ n k is. left.live n k (subst (IsLive s.connections) is on)) left;
  fell = λ p s off h. entered skip Own Primary p s (λ n k is. grind (arith, is)) h;
  changed = λ serial f tame same none s h. fewer skip s (changed serial f s.connections) (changed-live serial f tame s.connections) h;
  parts = λ why serial s on h. fewer skip s (changed serial (parted why s.at) s.connections) (changed-live serial (parted why s.at) (parted-tame why s.at) s.connections) h;
  discards = λ serial s off h. fewer skip s (changed serial drops s.connections) (changed-live serial drops drops-tame s.connections) h;
  logged = λ lines s h. h;
  ahead = λ lines k s h. h;
}

-- ---- a new connection

abbrev pub nobody : ℕ → Bool
nobody n = false

-- who lives after it and isn't the new one lived before
older : (serial n : ℕ) (s : State) → (serial == n) ≡ false → IsLive (opened serial s).connections (Client n) → IsLive s.connections (Client n)
older serial n s other on = at (list_any (lives_as n) s.connections) (sym (list_any-append (lives_as n) s.connections (fresh serial s.at ∷ [])) ∙ on)
  where
    at : (b : Bool) → (b || (((serial == n) && true) || false)) ≡ true → b ≡ true
    at true e = refl
    at false e = let none : (((serial == n) && true) || false) ≡ false = ap (λ (x : Bool). (x && true) || false) other in absurd cc

opened-greeted : (serial : ℕ) (s : State) → On (Greeted nobody) s → On (Greeted (λ n. serial == n)) (opened serial s)
opened-greeted serial s h = record {
  live = λ n k on. h.live n refl (older serial n s k on);
  active_one = λ n k is. h.active_one n refl is;
  told = λ n k. h.told n refl;
}

record NewIsGreeted (serial : ℕ) (s : State) : Type 0 where
  live : IsLive s.connections (Client serial) → IsGreeted (messages_for (Client serial) s.routed)
  active_one : s.active ≡ Client serial → IsGreeted (messages_for (Client serial) s.routed)
  told : StartsGreeted (messages_for (Client serial) s.routed)

not_active : (latest serial : ℕ) (s : State) → latest < serial → On (BelowLatest latest) s → s.active ≡ Client serial → ⊥
not_active latest serial s above below is = let upto : nat_le serial latest ≡ true = subst (λ (t : Target). is_upto latest t ≡ true) is below.active in grind (arith, nat_tests, upto, above)

full-new : (latest serial : ℕ) (s : State) → latest < serial → On (BelowLatest latest) s → NewIsGreeted serial (part cause.Full serial (opened serial s))
full-new latest serial s above below =
    let there : State = opened serial s in
    let new : Connection = fresh serial s.at in
    let is_new : has_serial serial new ≡ true = grind arith in
    let off : IsLive (marked cause.Full serial there).connections (Client serial) → ⊥ = marked-off cause.Full serial there in
    let none : NewIsGreeted serial (marked cause.Full serial there) = record {
      live = λ on. absurd (off on);
      active_one = λ is. absurd (not_active latest serial s above below is);
      told = subst (λ (es : List Entry). StartsGreeted (messages_in es)) (sym (untold latest serial s above below)) tt;
    } in
    subst (λ (o : Option Connection). NewIsGreeted serial (for_some (option_and_then screen_in o) (lose serial) unchanged (marked cause.Full serial there))) (sym (finds-new latest serial new s.connections above is_new below.connections)) none

greet-new : (latest serial : ℕ) (s : State) → latest < serial → On (BelowLatest latest) s → NewIsGreeted serial (greet serial (opened serial s))
greet-new latest serial s above below =
    let e : Entry = entry Own (Client serial) greeting (opened serial s) in
    let first : IsGreeted (messages_for (Client serial) (s.routed ++ e ∷ [])) = messages-more IsGreeted (Client serial) s.routed e (λ d. absurd (clash (same_target (Client serial) (Client serial)) (same_target-refl (Client serial)) d)) (λ d. subst (λ (es : List Entry). IsGreeted (messages_in es ++ greeting ∷ [])) (sym (untold latest serial s above below)) refl) in
    record { live = λ on. first; active_one = λ is. first; told = greeted-starts (messages_for (Client serial) (s.routed ++ e ∷ [])) first }
  where
    clash : (b : Bool) → b ≡ true → b ≡ false → ⊥
    clash b h k = grind (arith, h, k)

accept-greeted : (latest serial : ℕ) (s : State) → latest < serial → On (BelowLatest latest) s → On (Greeted nobody) s → On (Greeted nobody) (accept serial s)
accept-greeted latest serial s above below h = record {
  live = λ n k on. live n (serial == n) refl on;
  active_one = λ n k is. active_one n (serial == n) refl is;
  told = λ n k. told n (serial == n) refl;
}
  where
    others : On (Greeted (λ n. serial == n)) (accept serial s)
    others = accept-keeps (invariant (λ n. serial == n)) serial s (opened-greeted serial s h)

    new : NewIsGreeted serial (accept serial s)
    new = choose-keeps (NewIsGreeted serial) (nat_le most_open (length s.connections)) (part cause.Full serial) (greet serial) (opened serial s) (λ e. full-new latest serial s above below) (λ e. greet-new latest serial s above below)

    the_new : (n : ℕ) → (serial == n) ≡ true → NewIsGreeted n (accept serial s)
    the_new n e = let is : serial ≡ n = grind (arith, e) in subst (λ (m : ℕ). NewIsGreeted m (accept serial s)) is new

    live : (n : ℕ) (b : Bool) → (serial == n) ≡ b → IsLive (accept serial s).connections (Client n) → IsGreeted (messages_for (Client n) (accept serial s).routed)
    live n true e on = (the_new n e).live on
    live n false e on = others.live n e on

    active_one : (n : ℕ) (b : Bool) → (serial == n) ≡ b → (accept serial s).active ≡ Client n → IsGreeted (messages_for (Client n) (accept serial s).routed)
    active_one n true e is = (the_new n e).active_one is
    active_one n false e is = others.active_one n e is

    told : (n : ℕ) (b : Bool) → (serial == n) ≡ b → StartsGreeted (messages_for (Client n) (accept serial s).routed)
    told n true e = (the_new n e).told
    told n false e = others.told n e

-- ---- each happening

pub step-greeted : (latest : ℕ) (s : State) (h : Happening) → IsAllowed latest s h → On (BelowLatest latest) s → On (Greeted nobody) s → On (Greeted nobody) (step s h)
step-greeted latest s (Joined serial) a b k = accept-greeted latest serial s a b k
step-greeted latest s (Got serial piece) a b k = got-keeps (invariant nobody) serial piece s k
step-greeted latest s (Ended serial) a b k = breaks-keeps (invariant nobody) cause.Ended serial s k
step-greeted latest s (Failed serial) a b k = breaks-keeps (invariant nobody) cause.Failed serial s k
step-greeted latest s (Took serial count) a b k = fewer nobody s (changed serial (takes count) s.connections) (changed-live serial (takes count) (takes-tame count) s.connections) k
step-greeted latest s (Moment t) a b k = moment-keeps (invariant nobody) (λ n. refl) (λ n. refl) t s k
step-greeted latest s (Closed serial) a b k = close-keeps (invariant nobody) serial s (fewer nobody s (removed serial s.connections) (removed-live serial s.connections) k)

pub start-greeted : (s : State) → s.active ≡ Primary → s.connections ≡ [] → s.routed ≡ [] → On (Greeted nobody) s
start-greeted s active none untold-yet = record {
  live = λ n k on. let no : list_any (lives_as n) s.connections ≡ false = ap (list_any (lives_as n)) none in grind (arith, on, no);
  active_one = λ n k is. let no : Primary ≡ Client n = sym active ∙ is in grind (arith, no);
  told = λ n k. subst (λ (es : List Entry). StartsGreeted (messages_for (Client n) es)) (sym untold-yet) tt;
}
