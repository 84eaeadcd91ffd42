-- A wait, with each answer; and how long it is.
use Rattle.std.specs.Prelude.{◌≡◌, refl, ℕ, zero, suc, ◌==◌, ◌+◌, ◌-◌, ◌<◌, ◌≤◌, min, nat_le, nat_lt, Bool, true, false, not, ◌&&◌, ◌||◌, cond, is_some, List, [], ◌∷◌, ◌++◌, length, Option, None, Result, Ok, Err}
use Rattle.std.proofs.Common.{arith, ap, sym, subst, ◌∙◌, inl}
use Rattle.std.proofs.lemmas.Bool.Decides.{nat_tests}
use Rattle.hub_acts.specs.declared.act.Act.{Act}
use Rattle.hub_acts.specs.declared.act.Act.TheVariants as act
use Rattle.hub_acts.specs.declared.answers.LinkWaited.{LinkWaited}
use Rattle.hub_acts.specs.declared.answers.LinkWaited.TheVariants as waited
use Rattle.hub_acts.specs.Links.{LinkState}
use Rattle.client_core.specs.declared.client_end.ClientEnd.{ClientEnd}
use Rattle.client_core.specs.declared.client_end.ClientEnd.TheVariants as end
use Rattle.client_core.specs.declared.client_end.LostCause.TheVariants as lost
use Rattle.client_core.specs.Clients.{Client}
use Rattle.client_core.specs.Happenings.{untaken}
use Rattle.attentive_links.specs.Telling.{client_after}
use Rattle.attentive_links.specs.Flags.{Flags, with_marks, is_going, is_busy, is_writable, has_untaken}
use Rattle.attentive_links.specs.Places.{Place, Waits, Asks, place_after}
use Rattle.attentive_links.specs.Judging.{Judge, Allows, AllowsAt, judge_after, timeout, due, moment, longest_wait}
use Rattle.client_loop.specs.declared.watch.Watch.{Watch}
use Rattle.client_loop.specs.Attendants.{Reads}
use Rattle.client_loop.specs.Stages.{Course, Stage, Looks, HasEnd, IsMarked, Tells, flags_of, waits_in, waited_once}
use Rattle.client_loop.specs.Ends.{Halt}
use Rattle.client_loop.proofs.MoreActs.{IsTransitive, Acted, stage-more, waits-one}
use Rattle.client_loop.proofs.Halts.{halt-more, over-stops, fault-stops}
use Rattle.client_loop.proofs.TellSteps.{made_of}
use Rattle.client_loop.proofs.ReadSteps.{unmarked}

-- ---- what is undrained

going : (c : Client) → c.done ≡ None → is_going c ≡ true
going c e = ap (λ (d : Option ClientEnd). not (is_some d)) e

pub busy-reader : (watch : Watch) (c : Client) → c.done ≡ None → watch.reads ≡ true → is_busy (flags_of watch) c ≡ true
busy-reader watch c goes e =
    ap (λ (b : Bool). (b && is_going c) || is_writable (flags_of watch) c) e ∙ ap (λ (b : Bool). b || is_writable (flags_of watch) c) (going c goes)

unread : (watch : Watch) (c : Client) → watch.reads ≡ false → is_busy (flags_of watch) c ≡ is_writable (flags_of watch) c
unread watch c e = ap (λ (b : Bool). (b && is_going c) || is_writable (flags_of watch) c) e

pub idle : (watch : Watch) (c : Client) → watch.reads ≡ false → watch.writes ≡ false → is_busy (flags_of watch) c ≡ false
idle watch c e k = unread watch c e ∙ ap (λ (b : Bool). b && has_untaken c) k

pub busy-writer : (watch : Watch) (c : Client) (queue : List ℕ) (empty : Bool) → watch.reads ≡ false → watch.writes ≡ true → queue ≡ untaken c → empty ≡ (length queue == 0) → not empty ≡ is_busy (flags_of watch) c
busy-writer watch c queue empty e k is says =
    let whole : has_untaken c ≡ not (length queue == 0) = ap (λ (xs : List ℕ). nat_lt 0 (length xs)) (sym is) ∙ some (length queue) in
    ap not says ∙ sym (unread watch c e ∙ ap (λ (b : Bool). b && has_untaken c) k ∙ whole)
  where
    some : (n : ℕ) → nat_lt 0 n ≡ not (n == 0)
    some zero = refl
    some (suc n) = grind (arith, nat_tests)

-- ---- how long

pub soon-wait : (fs : Flags) (c : Client) (wait : ℕ) → is_busy fs c ≡ false → wait ≡ min longest_wait (due c - moment c) → wait ≡ timeout fs c
soon-wait fs c wait idle is =
    is ∙ late (nat_le (due c) (moment c)) refl ∙ ap (λ (b : Bool). cond (b || nat_le (due c) (moment c)) 0 (min longest_wait (due c - moment c))) (sym idle)
  where
    late : (b : Bool) → nat_le (due c) (moment c) ≡ b → min longest_wait (due c - moment c) ≡ cond b 0 (min longest_wait (due c - moment c))
    late true e = let le : due c ≤ moment c = grind (arith, nat_tests, e) in omega (arith, le)
    late false e = refl

-- ---- answers

module _ {C L : Type 0} (stands : C → List ℕ → Client → Type 0) (state : L → LinkState) (leads : L → L → Type 0) (trans : IsTransitive leads) (r : Course L) (core : C) (link link' : L) (watch : Watch) (ms : ℕ) (st : Stage stands state leads r core link watch (λ fs c. Waits)) (soon : ms ≡ timeout (flags_of watch) st.judge.client) where
  allowed_so : (answer : LinkWaited) → Allows st.judge (act.LinkWait ms answer)
  allowed_so answer = subst (λ (q : Place). AllowsAt q st.judge (act.LinkWait ms answer)) (sym st.there) (soon ∙ ap (λ (fs : Flags). timeout fs st.judge.client) (sym st.flags))

  waits_few : r.waits < r.turns → (answer : LinkWaited) → waits_in (st.acts ++ act.LinkWait ms answer ∷ []) ≤ r.turns
  waits_few lt answer = let k = waits-one st.acts (act.LinkWait ms answer) r.waits refl st.waits in omega (arith, k, lt)

  pub wait-ready : (readable writable : Bool) (watch' : Watch) → flags_of watch' ≡ with_marks readable writable (flags_of watch) → Acted state leads link link' (act.LinkWait ms (waited.Ready readable writable))
      → Stage stands state leads (waited_once r) core link' watch' (λ fs c. Asks)
  wait-ready readable writable watch' heeds acted =
      let a : Act = act.LinkWait ms (waited.Ready readable writable) in
      let k : Judge = judge_after st.judge a in
      stage-more stands state leads r core core link link' watch watch' (λ fs c. Waits) (λ fs c. Asks) a (r.waits + 1) r.reads trans acted st (record {
        calm = refl;
        whole = refl;
        allowed = allowed_so (waited.Ready readable writable);
        flags = ap (made_of (watch.reads || readable)) (unmarked (watch.writes || writable) st.judge.client st.judge.client refl) ∙ sym heeds;
        goes = st.goes;
        stood = st.stood;
        there = ap (λ (p : Place). place_after p a k.flags k.client) st.there;
      }) (waits-one st.acts a r.waits refl st.waits) st.few

  pub wait-over : r.waits < r.turns → Acted state leads link link' (act.LinkWait ms waited.Over) → Halt stands state leads (waited_once r) (end.Lost lost.Ended) core link'
  wait-over lt acted =
      let a : Act = act.LinkWait ms waited.Over in
      halt-more stands state leads r core core link link' watch (λ fs c. Waits) a (end.Lost lost.Ended) (client_after a st.judge.client) (r.waits + 1) r.reads trans acted st
      (over-stops stands state leads r core link watch (λ fs c. Waits) a st (allowed_so waited.Over) (waits_few lt waited.Over) refl refl refl refl)

  pub wait-failed : r.waits < r.turns → Acted state leads link link' (act.LinkWait ms waited.Failed) → Halt stands state leads (waited_once r) end.LinkFault core link'
  wait-failed lt acted =
      let a : Act = act.LinkWait ms waited.Failed in
      halt-more stands state leads r core core link link' watch (λ fs c. Waits) a end.LinkFault (client_after a st.judge.client) (r.waits + 1) r.reads trans acted st
      (fault-stops stands state leads r core link watch (λ fs c. Waits) a st (allowed_so waited.Failed) (waits_few lt waited.Failed) refl refl refl)

-- ---- after a happening

pub looked : {C : Type 0} (stands : C → List ℕ → Client → Type 0) (core : C) (watch watch' : Watch) (before : ℕ) (longer : Bool) (queue : List ℕ) (finish : Option ClientEnd) (result : Result (Unit {0}) ClientEnd)
    → Reads stands core queue untaken → longer ≡ nat_lt before (length queue) → flags_of watch' ≡ with_marks false longer (flags_of watch) → Reads stands core finish (λ c. c.done) → HasEnd result finish
    → Looks stands core watch watch' before result
looked stands core watch watch' before longer queue finish result reads is heeds says has front c stood = (
  heeds ∙ ap (λ (b : Bool). with_marks false b (flags_of watch)) (is ∙ ap (λ (xs : List ℕ). nat_lt before (length xs)) (reads front c stood)),
  subst (HasEnd result) (says front c stood) has,
)

-- what was told, by what the looking found
pub told-on : {C : Type 0} (stands : C → List ℕ → Client → Type 0) (core core' : C) (watch watch' : Watch) (queue : List ℕ) (next : Client → Client) (InPart : Client → Client → Type 0) (result : Result (Unit {0}) ClientEnd)
    → Reads stands core queue untaken → ((front : List ℕ) (c : Client) → c.done ≡ None → stands core front c → stands core' front (next c)) → Looks stands core' watch watch' (length queue) result
    → Tells stands result core core' watch watch' next InPart
told-on stands core core' watch watch' queue next InPart (Ok going) reads goes_to looks front c goes stood =
    let l = looks front (next c) (goes_to front c goes stood) in
    (goes_to front c goes stood, l.1, subst (λ (xs : List ℕ). IsMarked (length xs) (next c) watch watch') (reads front c stood) l.0)
told-on stands core core' watch watch' queue next InPart (Err e) reads goes_to looks front c goes stood =
    let l = looks front (next c) (goes_to front c goes stood) in
    inl (goes_to front c goes stood, l.1)
