-- A read, with each answer.
use Rattle.std.specs.Prelude.{◌≡◌, refl, ℕ, ◌+◌, ◌^◌, ◌<◌, ◌≤◌, nat_lt, Bool, true, false, not, ◌&&◌, ◌||◌, cond, is_some, List, [], ◌∷◌, ◌++◌, length, take, Option, None}
use Rattle.std.proofs.Common.{arith, ap, sym, subst, ◌∙◌}
use Rattle.std.proofs.lemmas.List.{length-take}
use Rattle.std.proofs.lemmas.Bool.Decides.{nat_tests}
use Rattle.hub_acts.specs.declared.act.Act.{Act}
use Rattle.hub_acts.specs.declared.act.Act.TheVariants as act
use Rattle.hub_acts.specs.declared.answers.ReadAnswer.{ReadAnswer}
use Rattle.hub_acts.specs.declared.answers.ReadAnswer.TheVariants as read
use Rattle.hub_acts.specs.Hubs.{FitsRead}
use Rattle.hub_acts.specs.Links.{LinkState}
use Rattle.client_core.specs.declared.client_end.ClientEnd.{ClientEnd}
use Rattle.client_core.specs.declared.client_end.ClientEnd.TheVariants as end
use Rattle.client_core.specs.declared.client_end.LostCause.TheVariants as lost
use Rattle.client_core.specs.Clients.{Client}
use Rattle.client_core.specs.Happenings.{sent}
use Rattle.attentive_links.specs.Telling.{client_after}
use Rattle.attentive_links.specs.Flags.{Flags, sends_more, is_readable, is_going}
use Rattle.attentive_links.specs.Places.{Place, Reads, at_reads, at_writes, unless_done, place_after}
use Rattle.attentive_links.specs.Judging.{Allows, AllowsAt, HasBytes, judge_after, most_moved}
use Rattle.attentive_links.proofs.ClientSteps.{IsOwn}
use Rattle.attentive_links.proofs.Clients.{got-taken, got-own, got-few}
use Rattle.client_loop.specs.declared.watch.Watch.{Watch}
use Rattle.client_loop.specs.Attendants.{MayGet}
use Rattle.client_loop.specs.Stages.{Course, Stage, flags_of, is_wait, waits_in, read_once}
use Rattle.client_loop.specs.Ends.{Halt}
use Rattle.client_loop.proofs.MoreActs.{IsTransitive, Acted, stage-more, elsewhere, waits-same}
use Rattle.client_loop.proofs.Halts.{halt-more, over-stops, failed-stops}
use Rattle.client_loop.proofs.TellSteps.{IsTold, made_of}

-- ---- what is due

and_true : (b : Bool) → (b && true) ≡ b
and_true true = refl
and_true false = refl

or_none : (b : Bool) → (b || false) ≡ b
or_none true = refl
or_none false = refl

pub not-more : (c d : Client) → length (sent d) ≡ length (sent c) → sends_more c d ≡ false
not-more c d same = ap (nat_lt (length (sent c))) same ∙ none (length (sent c))
  where
    none : (n : ℕ) → nat_lt n n ≡ false
    none n = grind (arith, nat_tests)

-- the flag is as it was, as no more is sent
pub unmarked : (b : Bool) (c d : Client) → length (sent d) ≡ length (sent c) → (b || sends_more c d) ≡ b
unmarked b c d same = ap (λ (t : Bool). b || t) (not-more c d same) ∙ or_none b

readable : (fs : Flags) (c : Client) (watch : Watch) (b : Bool) → fs ≡ flags_of watch → c.done ≡ None → watch.reads ≡ b → is_readable fs c ≡ b
readable fs c watch b is goes e =
    ap (λ (f : Flags). f.reads && is_going c) is ∙ ap (λ (d : Option ClientEnd). watch.reads && not (is_some d)) goes ∙ and_true watch.reads ∙ e

module _ {C L : Type 0} (stands : C → List ℕ → Client → Type 0) (state : L → LinkState) (leads : L → L → Type 0) (r : Course L) (core : C) (link : L) (watch : Watch) (st : Stage stands state leads r core link watch at_reads) where
  -- it is passed by
  pub pass-read : watch.reads ≡ false → Stage stands state leads (read_once r) core link watch at_writes
  pass-read e = elsewhere stands state leads r core core link watch at_reads at_writes r.front (r.reads + 1) st st.stood (omega arith)
      (st.there ∙ ap (λ (b : Bool). cond b Reads (at_writes st.judge.flags st.judge.client)) (readable st.judge.flags st.judge.client watch false st.flags st.goes e))

  pub may-get : r.reads < 2 ^ 32 → (piece : List ℕ) → length piece ≤ most_moved → MayGet stands core piece
  may-get lt piece few = (r.front, st.judge.client, st.stood, let k = st.few in omega (arith, k, lt, few))

  is_here : watch.reads ≡ true → st.judge.place ≡ Reads
  is_here e = st.there ∙ ap (λ (b : Bool). cond b Reads (at_writes st.judge.flags st.judge.client)) (readable st.judge.flags st.judge.client watch true st.flags st.goes e)

  allowed_so : watch.reads ≡ true → (room : ℕ) (answer : ReadAnswer) (bytes : List ℕ) → room ≡ most_moved → FitsRead answer room → HasBytes answer bytes → Allows st.judge (act.LinkRead room answer bytes)
  allowed_so e room answer bytes full fits gives =
      subst (λ (q : Place). AllowsAt q st.judge (act.LinkRead room answer bytes)) (sym (is_here e)) (full, fits, gives, readable st.judge.flags st.judge.client watch true st.flags st.goes e)

  place_is : watch.reads ≡ true → (a : Act) → (judge_after st.judge a).place ≡ unless_done (client_after a st.judge.client).done (at_writes (judge_after st.judge a).flags (client_after a st.judge.client))
  place_is e a = ap (λ (p : Place). place_after p a (judge_after st.judge a).flags (client_after a st.judge.client)) (is_here e)

  waits_few : r.waits ≤ r.turns → (a : Act) → is_wait a ≡ false → waits_in (st.acts ++ a ∷ []) ≤ r.turns
  waits_few le a e = let k = waits-same st.acts a r.waits e st.waits in omega (arith, k, le)

  pub got-told : watch.reads ≡ true → (buf : List ℕ) → length buf ≡ most_moved → (n : ℕ) → FitsRead (read.Got n) (length buf)
      → IsTold stands state leads r core link watch at_reads at_writes (act.LinkRead (length buf) (read.Got n) (take n buf)) st r.waits (r.reads + 1)
  got-told e buf full n fits =
      let size : length (take n buf) ≡ n = let l = length-take n buf in let k = fits.1 in omega (arith, l, k) in
      record {
        calm = refl;
        whole = refl;
        goes = refl;
        allowed = allowed_so e (length buf) (read.Got n) (take n buf) full fits size;
        unmarked = refl;
        taken = got-taken (take n buf) st.judge.client;
        own = got-own (take n buf) st.judge.client (subst IsOwn (sym st.goes) tt);
        few = (let x = got-few (take n buf) st.judge.client in let y = st.few in let k = fits.1 in omega (arith, x, y, k, size, full));
        there = place_is e (act.LinkRead (length buf) (read.Got n) (take n buf));
      }

  module _ (trans : IsTransitive leads) (link' : L) (e : watch.reads ≡ true) (room : ℕ) (full : room ≡ most_moved) where
    pub end-reads : r.waits ≤ r.turns → Acted state leads link link' (act.LinkRead room read.End []) → Halt stands state leads (read_once r) (end.Lost lost.Ended) core link'
    end-reads le acted =
        let a : Act = act.LinkRead room read.End [] in
        halt-more stands state leads r core core link link' watch at_reads a (end.Lost lost.Ended) (client_after a st.judge.client) r.waits (r.reads + 1) trans acted st
        (over-stops stands state leads r core link watch at_reads a st (allowed_so e room read.End [] full tt refl) (waits_few le a refl) refl refl refl refl)

    pub failed-reads : r.waits ≤ r.turns → Acted state leads link link' (act.LinkRead room read.Failed []) → Halt stands state leads (read_once r) (end.Lost lost.Failed) core link'
    failed-reads le acted =
        let a : Act = act.LinkRead room read.Failed [] in
        halt-more stands state leads r core core link link' watch at_reads a (end.Lost lost.Failed) (client_after a st.judge.client) r.waits (r.reads + 1) trans acted st
        (failed-stops stands state leads r core link watch at_reads a st (allowed_so e room read.Failed [] full tt refl) (waits_few le a refl) refl refl refl)

    pub none-reads : Acted state leads link link' (act.LinkRead room read.NotNow []) → Stage stands state leads (read_once r) core link' (record watch { reads = false }) at_writes
    none-reads acted =
        let a : Act = act.LinkRead room read.NotNow [] in
        stage-more stands state leads r core core link link' watch (record watch { reads = false }) at_reads at_writes a r.waits (r.reads + 1) trans acted st (record {
          calm = refl;
          whole = refl;
          allowed = allowed_so e room read.NotNow [] full tt refl;
          flags = ap (made_of false) (unmarked watch.writes st.judge.client st.judge.client refl);
          goes = st.goes;
          stood = st.stood;
          there = place_is e a ∙ ap (λ (d : Option ClientEnd). unless_done d (at_writes (judge_after st.judge a).flags st.judge.client)) st.goes;
        }) (waits-same st.acts a r.waits refl st.waits) (let k = st.few in omega (arith, k))
