-- Whatever a connection is told begins with the greeting.
use Rattle.std.specs.Prelude.{◌≡◌, refl, ℕ, ◌<◌, Bool, true, false, ◌&&◌, nat_le, length, List, [], ◌∷◌, ◌++◌, cond}
use Rattle.std.specs.List.{list_all}
use Rattle.std.proofs.Common.{arith, ap, sym, subst, ◌∙◌}
use Rattle.std.proofs.lemmas.Bool.{and_parts}
use Rattle.std.proofs.lemmas.List.{map-append}
use Rattle.std.proofs.lemmas.List.Elements.{filter-append}
use Rattle.std.proofs.lemmas.List.Folds.{list_all-append}
use Rattle.message_codec.specs.declared.messages.Msg.{Msg}
use Rattle.hello_states.specs.declared.part_cause.PartCause.TheVariants as cause
use Rattle.machine.specs.Targets.{Target, Client, Entry, Own, same_target}
use Rattle.machine.specs.States.{State}
use Rattle.machine.specs.Queues.{entries_for, messages_in, messages_for}
use Rattle.machine.specs.Routing.{entry}
use Rattle.machine.specs.Partings.{part}
use Rattle.machine.specs.Acceptance.{most_open, opened, greet, accept}
use Rattle.machine.specs.Happenings.{Happening, Joined, Got, Ended, Failed, Took, Moment, Closed, IsAllowed}
use Rattle.machine.specs.Steps.{step}
use Rattle.machine.proofs.Rules.{choose-keeps}
use Rattle.machine.proofs.OfTargets.{messages-more}
use Rattle.machine.proofs.Invariant.{On}
use Rattle.machine.proofs.BelowLatest.{BelowLatest, untold}
use Rattle.reached_states.specs.Reaching.{start_of}
use Rattle.reached_states.proofs.ReachedAll.{reached-all-below}
use Rattle.both_ends.specs.Greetings.{greeting, may_follow, IsGreetedFirst, GreetedFirst}
use Rattle.both_ends.proofs.Greeted.{StartsGreeted, Greeted, nobody, step-greeted, start-greeted}
use Rattle.both_ends.proofs.TellingPartings.{part-tells}
use Rattle.both_ends.proofs.TellingSteps.{Brings}
use Rattle.both_ends.proofs.Following.{follows, Adds, adds-none, kinds, telling, step-adds}

-- ---- messages for a target

pub messages-append : (t : Target) (base more : List Entry) → messages_for t (base ++ more) ≡ messages_for t base ++ messages_for t more
messages-append t base more = ap messages_in (filter-append (λ (e : Entry). same_target e.target t) base more) ∙ map-append (λ (e : Entry). e.message) (entries_for t base) (entries_for t more)

all_for : (t : Target) (entries : List Entry) → list_all follows entries ≡ true → list_all may_follow (messages_for t entries) ≡ true
all_for t [] h = refl
all_for t (e ∷ entries) h = let parts = and_parts (follows e) (list_all follows entries) h in by (same_target e.target t) parts.0 (all_for t entries parts.1)
  where
    by : (b : Bool) → follows e ≡ true → list_all may_follow (messages_for t entries) ≡ true → list_all may_follow (messages_in (cond b (e ∷ entries_for t entries) (entries_for t entries))) ≡ true
    by true here rest = ap (λ (b : Bool). b && list_all may_follow (messages_for t entries)) here ∙ rest
    by false here rest = rest

-- ---- more of them

no_second : (m : Msg) → may_follow m ≡ true → m ≡ greeting → ⊥
no_second m f is = let no : may_follow greeting ≡ true = subst (λ (x : Msg). may_follow x ≡ true) is f in absurd cc

both : (a b : Bool) → a ≡ true → b ≡ true → (a && b) ≡ true
both a b h k = ap (λ (x : Bool). x && b) h ∙ k

grows : (old more : List Msg) → StartsGreeted (old ++ more) → list_all may_follow more ≡ true → IsGreetedFirst old → IsGreetedFirst (old ++ more)
grows [] [] starts f h = tt
grows [] (m ∷ more) starts f h = absurd (no_second m (and_parts (may_follow m) (list_all may_follow more) f).0 starts)
grows (m ∷ later) more starts f h = (h.0, list_all-append may_follow later more ∙ both (list_all may_follow later) (list_all may_follow more) h.1 f)

abbrev AllFirst : List Entry → Type 0
AllFirst routed = (n : ℕ) → IsGreetedFirst (messages_for (Client n) routed)

abbrev AllStart : List Entry → Type 0
AllStart routed = (n : ℕ) → StartsGreeted (messages_for (Client n) routed)

first-adds : (base routed : List Entry) → Adds base routed → AllStart routed → AllFirst base → AllFirst routed
first-adds base routed (more, is, f) starts h n =
    let old : List Msg = messages_for (Client n) base in
    let new : List Msg = messages_for (Client n) more in
    let e : messages_for (Client n) routed ≡ old ++ new = ap (messages_for (Client n)) is ∙ messages-append (Client n) base more in
    subst IsGreetedFirst (sym e) (grows old new (subst StartsGreeted e (starts n)) (all_for (Client n) more f) (h n))

-- ---- a new connection

first-greeted : (latest serial : ℕ) (s : State) → latest < serial → On (BelowLatest latest) s → AllFirst s.routed → AllFirst (greet serial (opened serial s)).routed
first-greeted latest serial s above below h n =
    messages-more IsGreetedFirst (Client n) s.routed (entry Own (Client serial) greeting (opened serial s)) (λ d. h n) (λ d.
    let is : serial ≡ n = grind (arith, d) in
    subst (λ (es : List Entry). IsGreetedFirst (messages_in es ++ greeting ∷ [])) (sym (untold latest n s (subst (λ (m : ℕ). latest < m) is above) below)) (refl, refl))

accept-first : (latest serial : ℕ) (s : State) → latest < serial → On (BelowLatest latest) s → AllStart (accept serial s).routed → AllFirst s.routed → AllFirst (accept serial s).routed
accept-first latest serial s above below starts h =
    choose-keeps (λ (t : State). AllStart t.routed → AllFirst t.routed) (nat_le most_open (length s.connections)) (part cause.Full serial) (greet serial) (opened serial s)
    (λ e on. first-adds s.routed (part cause.Full serial (opened serial s)).routed (part-tells (telling s.routed) cause.Full serial (opened serial s) (adds-none s.routed)) on h)
    (λ e on. first-greeted latest serial s above below h)
    starts

-- ---- each happening

others : (s : State) (h : Happening) → Brings (kinds s.routed) h → On (Greeted nobody) (step s h) → AllFirst s.routed → AllFirst (step s h).routed
others s h b g k = first-adds s.routed (step s h).routed (step-adds s h b) (λ n. g.told n refl) k

step-first : (latest : ℕ) (s : State) (h : Happening) → IsAllowed latest s h → On (BelowLatest latest) s → On (Greeted nobody) (step s h) → AllFirst s.routed → AllFirst (step s h).routed
step-first latest s (Joined serial) a b g k = accept-first latest serial s a b (λ n. g.told n refl) k
step-first latest s (Got serial piece) a b g k = others s (Got serial piece) tt g k
step-first latest s (Ended serial) a b g k = others s (Ended serial) tt g k
step-first latest s (Failed serial) a b g k = others s (Failed serial) tt g k
step-first latest s (Took serial count) a b g k = others s (Took serial count) tt g k
step-first latest s (Moment t) a b g k = others s (Moment t) tt g k
step-first latest s (Closed serial) a b g k = others s (Closed serial) tt g k

record IsFirst (s : State) : Type 0 where
  greeted : On (Greeted nobody) s
  first : AllFirst s.routed

step-kept : (latest : ℕ) (s : State) (h : Happening) → IsAllowed latest s h → On (BelowLatest latest) s → IsFirst s → IsFirst (step s h)
step-kept latest s h a b k = let g = step-greeted latest s h a b k.greeted in record { greeted = g; first = step-first latest s h a b g k.first }

pub greeted-first : GreetedFirst
greeted-first o latest s serial r = (reached-all-below (λ n t. IsFirst t) step-kept o latest s (record { greeted = start-greeted (start_of o) refl refl refl; first = λ n. tt }) r).first serial
