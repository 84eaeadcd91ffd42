-- Where the turns end.
use Rattle.std.specs.Prelude.{◌≡◌, refl, ℕ, ◌≤◌, true, false, List, [], ◌∷◌, ◌++◌, unwrap_or, Option, Some, None}
use Rattle.std.proofs.Common.{arith, ap, sym, subst, ◌∙◌, inl, inr}
use Rattle.hub_acts.specs.declared.act.Act.{Act}
use Rattle.hub_acts.specs.Counting.{Counts, is_fault, is_break}
use Rattle.hub_acts.specs.Links.{LinkState, LinkCalls}
use Rattle.client_core.specs.declared.client_end.ClientEnd.{ClientEnd}
use Rattle.client_core.specs.declared.client_end.ClientEnd.TheVariants as end
use Rattle.client_core.specs.declared.client_end.LostCause.TheVariants as lost
use Rattle.client_core.specs.Clients.{Client}
use Rattle.client_core.specs.Happenings.{ended}
use Rattle.attentive_links.specs.Telling.{client_after}
use Rattle.attentive_links.specs.Flags.{Flags}
use Rattle.attentive_links.specs.Places.{Place}
use Rattle.attentive_links.specs.Judging.{Judge, Allows, judged, judge_after, first_judge}
use Rattle.attentive_links.specs.InPart.{client_of, TakesInPart}
use Rattle.attentive_links.proofs.ClientSteps.{IsOwn}
use Rattle.client_loop.specs.declared.watch.Watch.{Watch}
use Rattle.client_loop.specs.Stages.{Course, Stage, waits_in}
use Rattle.client_loop.specs.Ends.{EndsBy, CountsFaults, CountsBreaks, ComesBy, Halt, is_over, is_broken}
use Rattle.client_loop.proofs.MoreActs.{IsTransitive, Acted, made-more, made-still, stayed, rose}

-- ---- ends that the client brings

own-cause : (e : ClientEnd) → IsOwn (Some e) → (turns : ℕ) (acts : List Act) (j : Judge) → j.client.done ≡ Some e → EndsBy e turns acts j
own-cause end.Bye own turns acts j h = h
own-cause (end.Refused which) own turns acts j h = h
own-cause (end.BadPeer place reason) own turns acts j h = h
own-cause (end.Lost lost.Dead) own turns acts j h = h
own-cause (end.Lost lost.Slow) own turns acts j h = h
own-cause (end.Lost lost.Ended) own turns acts j h = absurd own
own-cause (end.Lost lost.Failed) own turns acts j h = absurd own
own-cause end.TurnsSpent own turns acts j h = absurd own
own-cause end.LinkFault own turns acts j h = absurd own
own-cause end.WriteFault own turns acts j h = absurd own
own-cause end.OutOfMemory own turns acts j h = absurd own

own-faults : (e : ClientEnd) → IsOwn (Some e) → (old new : ℕ) → new ≡ old → CountsFaults e old new
own-faults end.Bye own old new h = h
own-faults (end.Refused which) own old new h = h
own-faults (end.BadPeer place reason) own old new h = h
own-faults (end.Lost cause) own old new h = h
own-faults end.TurnsSpent own old new h = h
own-faults end.LinkFault own old new h = absurd own
own-faults end.WriteFault own old new h = absurd own
own-faults end.OutOfMemory own old new h = absurd own

own-breaks : (e : ClientEnd) → IsOwn (Some e) → (old new : ℕ) → new ≡ old → CountsBreaks e old new
own-breaks end.Bye own old new h = h
own-breaks (end.Refused which) own old new h = h
own-breaks (end.BadPeer place reason) own old new h = h
own-breaks (end.Lost lost.Dead) own old new h = h
own-breaks (end.Lost lost.Slow) own old new h = h
own-breaks (end.Lost lost.Ended) own old new h = h
own-breaks (end.Lost lost.Failed) own old new h = absurd own
own-breaks end.TurnsSpent own old new h = h
own-breaks end.LinkFault own old new h = h
own-breaks end.WriteFault own old new h = absurd own
own-breaks end.OutOfMemory own old new h = absurd own

pub own-whole : (e : ClientEnd) → IsOwn (Some e) → is_broken e ≡ false
own-whole end.Bye own = refl
own-whole (end.Refused which) own = refl
own-whole (end.BadPeer place reason) own = refl
own-whole (end.Lost cause) own = refl
own-whole end.TurnsSpent own = refl
own-whole end.LinkFault own = refl
own-whole end.WriteFault own = absurd own
own-whole end.OutOfMemory own = refl

-- it took all acts
pub comes-by : (e : ClientEnd) (first : Client) (acts : List Act) (d : Client) → d ≡ client_of first acts → ComesBy e first acts d
comes-by end.WriteFault first acts d h = inl h
comes-by end.OutOfMemory first acts d h = inl h
comes-by end.Bye first acts d h = h
comes-by (end.Refused which) first acts d h = h
comes-by (end.BadPeer place reason) first acts d h = h
comes-by (end.Lost cause) first acts d h = h
comes-by end.TurnsSpent first acts d h = h
comes-by end.LinkFault first acts d h = h

-- ---- one more act, and the end

-- what becomes known with the act
pub record Stops {C : Type 0} (stands : C → List ℕ → Client → Type 0) (core' : C) (front : List ℕ) (j : Judge) (a : Act) (e : ClientEnd) (turns : ℕ) (acts : List Act) (first : Client) (last : Client) : Type 0 where
  pub allowed : Allows j a
  pub waits : waits_in (acts ++ a ∷ []) ≤ turns
  pub faults : (old mid new : ℕ) → mid ≡ old → Counts (is_fault a) mid new → CountsFaults e old new
  pub breaks : (old mid new : ℕ) → mid ≡ old → Counts (is_break a) mid new → CountsBreaks e old new
  pub cause : EndsBy e turns (acts ++ a ∷ []) (judge_after j a)
  pub came : ComesBy e first (acts ++ a ∷ []) last
  pub held : Client
  pub stood : stands core' front held
  pub shown : held.shown ≡ last.shown

pub halt-more : {C L : Type 0} (stands : C → List ℕ → Client → Type 0) (state : L → LinkState) (leads : L → L → Type 0) (r : Course L) (core core' : C) (link link' : L) (watch : Watch) (P : Flags → Client → Place) (a : Act) (e : ClientEnd) (last : Client) (w n : ℕ)
    → IsTransitive leads → Acted state leads link link' a
    → (st : Stage stands state leads r core link watch P)
    → Stops stands core' r.front st.judge a e r.turns st.acts r.first last
    → Halt stands state leads (record r { waits = w; reads = n }) e core' link'
halt-more stands state leads r core core' link link' watch P a e last w n trans acted st s = record {
  acts = st.acts ++ a ∷ [];
  judge = judge_after st.judge a;
  made = made-more (first_judge r.first) (state r.link) (state link) (state link') st.acts st.judge a st.made s.allowed acted.calls.acts;
  waits = s.waits;
  faults = s.faults (state r.link).faults (state link).faults (state link').faults st.faults acted.calls.faults;
  breaks = s.breaks (state r.link).breaks (state link).breaks (state link').breaks st.breaks acted.calls.breaks;
  led = trans r.link link link' st.led acted.led;
  cause = s.cause;
  last = last;
  came = s.came;
  held = s.held;
  stood = s.stood;
  shown = s.shown;
}

-- memory was out for an act
pub halt-none : {C L : Type 0} (stands : C → List ℕ → Client → Type 0) (state : L → LinkState) (leads : L → L → Type 0) (r : Course L) (core : C) (link link' : L) (watch : Watch) (P : Flags → Client → Place) (w n : ℕ)
    → IsTransitive leads → LinkCalls None (state link) (state link') → leads link link' → r.waits ≤ r.turns
    → Stage stands state leads r core link watch P
    → Halt stands state leads (record r { waits = w; reads = n }) end.OutOfMemory core link'
halt-none stands state leads r core link link' watch P w n trans calls led le st = record {
  acts = st.acts;
  judge = st.judge;
  made = made-still (first_judge r.first) (state r.link) (state link) (state link') st.acts st.judge st.made calls.acts;
  waits = (let k = st.waits in omega (arith, k, le));
  faults = (let a = st.faults in let b = calls.faults in omega (arith, a, b));
  breaks = (let a = st.breaks in let b = calls.breaks in omega (arith, a, b));
  led = trans r.link link link' st.led led;
  cause = tt;
  last = st.judge.client;
  came = inl (ap (λ (j : Judge). j.client) (sym st.made.judges));
  held = st.judge.client;
  stood = st.stood;
  shown = refl;
}

-- the client that the acts lead to, with one more
pub client-more : {C L : Type 0} (stands : C → List ℕ → Client → Type 0) (state : L → LinkState) (leads : L → L → Type 0) (r : Course L) (core : C) (link : L) (watch : Watch) (P : Flags → Client → Place) (a : Act)
    → (st : Stage stands state leads r core link watch P) → client_after a st.judge.client ≡ client_of r.first (st.acts ++ a ∷ [])
client-more stands state leads r core link watch P a st =
    sym (ap (λ (j : Judge). j.client) (more (first_judge r.first) st.acts ∙ ap (λ (j : Judge). judge_after j a) st.made.judges))
  where
    more : (j : Judge) (acts : List Act) → judged j (acts ++ a ∷ []) ≡ judge_after (judged j acts) a
    more j [] = refl
    more j (b ∷ acts) = more (judge_after j b) acts

-- ---- by a happening that was told

-- an end that it brought
pub own-stops : {C L : Type 0} (stands : C → List ℕ → Client → Type 0) (state : L → LinkState) (leads : L → L → Type 0) (r : Course L) (core core' : C) (link : L) (watch : Watch) (P : Flags → Client → Place) (a : Act) (e : ClientEnd)
    → (st : Stage stands state leads r core link watch P) → Allows st.judge a → waits_in (st.acts ++ a ∷ []) ≤ r.turns → is_fault a ≡ false → is_break a ≡ false
    → IsOwn (client_after a st.judge.client).done → (client_after a st.judge.client).done ≡ Some e → stands core' r.front (client_after a st.judge.client)
    → Stops stands core' r.front st.judge a e r.turns st.acts r.first (client_after a st.judge.client)
own-stops stands state leads r core core' link watch P a e st allowed waits calm whole own is stood =
    let mine : IsOwn (Some e) = subst IsOwn is own in
    record {
      allowed = allowed;
      waits = waits;
      faults = λ old mid new k h. own-faults e mine old new (stayed (is_fault a) mid new calm h ∙ k);
      breaks = λ old mid new k h. own-breaks e mine old new (stayed (is_break a) mid new whole h ∙ k);
      cause = own-cause e mine r.turns (st.acts ++ a ∷ []) (judge_after st.judge a) is;
      came = comes-by e r.first (st.acts ++ a ∷ []) (client_after a st.judge.client) (client-more stands state leads r core link watch P a st);
      held = client_after a st.judge.client;
      stood = stood;
      shown = refl;
    }

-- memory ran out in it
pub part-stops : {C L : Type 0} (stands : C → List ℕ → Client → Type 0) (state : L → LinkState) (leads : L → L → Type 0) (r : Course L) (core core' : C) (link : L) (watch : Watch) (P : Flags → Client → Place) (a : Act) (d : Client)
    → (st : Stage stands state leads r core link watch P) → Allows st.judge a → waits_in (st.acts ++ a ∷ []) ≤ r.turns → is_fault a ≡ false → is_break a ≡ false
    → TakesInPart st.judge.client a d → stands core' r.front d
    → Stops stands core' r.front st.judge a end.OutOfMemory r.turns st.acts r.first d
part-stops stands state leads r core core' link watch P a d st allowed waits calm whole part stood = record {
  allowed = allowed;
  waits = waits;
  faults = λ old mid new k h. (let s = stayed (is_fault a) mid new calm h in omega (arith, s, k));
  breaks = λ old mid new k h. (let s = stayed (is_break a) mid new whole h in omega (arith, s, k));
  cause = tt;
  came = inr (record { before = st.acts; last = a; split = refl; takes = subst (λ (j : Judge). TakesInPart j.client a d) (sym st.made.judges) part });
  held = d;
  stood = stood;
  shown = refl;
}

-- ---- by what the link answered

lost_done : (c : Client) (why : ClientEnd) → c.done ≡ None → Some (unwrap_or c.done why) ≡ Some why
lost_done c why e = ap (λ (d : Option ClientEnd). Some (unwrap_or d why)) e

-- the stream has ended
pub over-stops : {C L : Type 0} (stands : C → List ℕ → Client → Type 0) (state : L → LinkState) (leads : L → L → Type 0) (r : Course L) (core : C) (link : L) (watch : Watch) (P : Flags → Client → Place) (a : Act)
    → (st : Stage stands state leads r core link watch P) → Allows st.judge a → waits_in (st.acts ++ a ∷ []) ≤ r.turns → is_over a ≡ true → is_fault a ≡ false → is_break a ≡ false
    → client_after a st.judge.client ≡ ended (end.Lost lost.Ended) st.judge.client
    → Stops stands core r.front st.judge a (end.Lost lost.Ended) r.turns st.acts r.first (client_after a st.judge.client)
over-stops stands state leads r core link watch P a st allowed waits over calm whole is = record {
  allowed = allowed;
  waits = waits;
  faults = λ old mid new k h. stayed (is_fault a) mid new calm h ∙ k;
  breaks = λ old mid new k h. stayed (is_break a) mid new whole h ∙ k;
  cause = ((st.acts, a, refl, over), ap (λ (d : Client). d.done) is ∙ lost_done st.judge.client (end.Lost lost.Ended) st.goes);
  came = client-more stands state leads r core link watch P a st;
  held = st.judge.client;
  stood = st.stood;
  shown = sym (ap (λ (d : Client). d.shown) is);
}

-- a read or a write failed
pub failed-stops : {C L : Type 0} (stands : C → List ℕ → Client → Type 0) (state : L → LinkState) (leads : L → L → Type 0) (r : Course L) (core : C) (link : L) (watch : Watch) (P : Flags → Client → Place) (a : Act)
    → (st : Stage stands state leads r core link watch P) → Allows st.judge a → waits_in (st.acts ++ a ∷ []) ≤ r.turns → is_fault a ≡ false → is_break a ≡ true
    → client_after a st.judge.client ≡ ended (end.Lost lost.Failed) st.judge.client
    → Stops stands core r.front st.judge a (end.Lost lost.Failed) r.turns st.acts r.first (client_after a st.judge.client)
failed-stops stands state leads r core link watch P a st allowed waits calm broke is = record {
  allowed = allowed;
  waits = waits;
  faults = λ old mid new k h. stayed (is_fault a) mid new calm h ∙ k;
  breaks = λ old mid new k h. rose (is_break a) old mid new broke k h;
  cause = ((st.acts, a, refl, broke), ap (λ (d : Client). d.done) is ∙ lost_done st.judge.client (end.Lost lost.Failed) st.goes);
  came = client-more stands state leads r core link watch P a st;
  held = st.judge.client;
  stood = st.stood;
  shown = sym (ap (λ (d : Client). d.shown) is);
}

-- the link failed
pub fault-stops : {C L : Type 0} (stands : C → List ℕ → Client → Type 0) (state : L → LinkState) (leads : L → L → Type 0) (r : Course L) (core : C) (link : L) (watch : Watch) (P : Flags → Client → Place) (a : Act)
    → (st : Stage stands state leads r core link watch P) → Allows st.judge a → waits_in (st.acts ++ a ∷ []) ≤ r.turns → is_fault a ≡ true → is_break a ≡ false
    → client_after a st.judge.client ≡ st.judge.client
    → Stops stands core r.front st.judge a end.LinkFault r.turns st.acts r.first (client_after a st.judge.client)
fault-stops stands state leads r core link watch P a st allowed waits fault whole is = record {
  allowed = allowed;
  waits = waits;
  faults = λ old mid new k h. rose (is_fault a) old mid new fault k h;
  breaks = λ old mid new k h. stayed (is_break a) mid new whole h ∙ k;
  cause = ((st.acts, a, refl, fault), ap (λ (d : Client). d.done) is ∙ st.goes);
  came = client-more stands state leads r core link watch P a st;
  held = st.judge.client;
  stood = st.stood;
  shown = sym (ap (λ (d : Client). d.shown) is);
}
