-- One more act: where a stage leads.
use Rattle.std.specs.Prelude.{◌≡◌, refl, ℕ, ◌+◌, ◌*◌, ◌≤◌, Bool, true, false, cond, List, [], ◌∷◌, ◌++◌, length, Option, Some, None}
use Rattle.std.proofs.Common.{arith, ap, sym, subst, ◌∙◌, append_assoc, append-nil}
use Rattle.std.proofs.lemmas.List.Sums.{sum_by_push}
use Rattle.hub_acts.specs.declared.act.Act.{Act}
use Rattle.hub_acts.specs.Acts.{known_after}
use Rattle.hub_acts.specs.Counting.{Counts, is_fault, is_break}
use Rattle.hub_acts.specs.Links.{LinkState, LinkCalls}
use Rattle.client_core.specs.Clients.{Client}
use Rattle.attentive_links.specs.Telling.{client_after}
use Rattle.attentive_links.specs.Flags.{Flags, flags_after}
use Rattle.attentive_links.specs.Places.{Place}
use Rattle.attentive_links.specs.Judging.{Judge, Allows, Follows, judged, judge_after, first_judge, most_moved}
use Rattle.client_loop.specs.declared.watch.Watch.{Watch}
use Rattle.client_loop.specs.Stages.{Made, Course, Stage, flags_of, is_wait, waits_in, known_with}

-- ---- lists of acts

judged_more : (j : Judge) (acts : List Act) (a : Act) → judged j (acts ++ a ∷ []) ≡ judge_after (judged j acts) a
judged_more j [] a = refl
judged_more j (b ∷ acts) a = judged_more (judge_after j b) acts a

follows_more : (j : Judge) (acts : List Act) (a : Act) → Follows j acts → Allows (judged j acts) a → Follows j (acts ++ a ∷ [])
follows_more j [] a f h = (h, tt)
follows_more j (b ∷ acts) a f h = (f.0, follows_more (judge_after j b) acts a f.1 h)

known_more : (acts : List Act) (a : Act) (known : Option (List Act)) → known_after (Some a) (known_with acts known) ≡ known_with (acts ++ a ∷ []) known
known_more acts a None = refl
known_more acts a (Some before) = ap (λ (xs : List Act). Some xs) (append_assoc before acts (a ∷ []))

pub made-more : (first : Judge) (old mid new : LinkState) (acts : List Act) (j : Judge) (a : Act) → Made first old mid acts j → Allows j a → new.acts ≡ known_after (Some a) mid.acts → Made first old new (acts ++ a ∷ []) (judge_after j a)
made-more first old mid new acts j a m h k = record {
  follows = follows_more first acts a m.follows (subst (λ (i : Judge). Allows i a) (sym m.judges) h);
  judges = judged_more first acts a ∙ ap (λ (i : Judge). judge_after i a) m.judges;
  known = k ∙ ap (known_after (Some a)) m.known ∙ known_more acts a old.acts;
}

known_none : (known : Option (List Act)) → known_after None known ≡ known
known_none None = refl
known_none (Some acts) = refl

-- memory was out for an act
pub made-still : (first : Judge) (old mid new : LinkState) (acts : List Act) (j : Judge) → Made first old mid acts j → new.acts ≡ known_after None mid.acts → Made first old new acts j
made-still first old mid new acts j m k = record { follows = m.follows; judges = m.judges; known = k ∙ known_none mid.acts ∙ m.known }

known_nil : (known : Option (List Act)) → known ≡ known_with [] known
known_nil None = refl
known_nil (Some acts) = ap (λ (xs : List Act). Some xs) (sym (append-nil acts))

-- no act was made yet
pub made-none : (first : Judge) (link : LinkState) → Made first link link [] first
made-none first link = record { follows = tt; judges = refl; known = known_nil link.acts }

waits_pushed : (acts : List Act) (a : Act) (b : Bool) → is_wait a ≡ b → waits_in (acts ++ a ∷ []) ≡ waits_in acts + cond b 1 0
waits_pushed acts a b e =
    let weight : Act → ℕ = λ x. cond (is_wait x) 1 0 in
    let push : waits_in (acts ++ a ∷ []) ≡ waits_in acts + weight a = sum_by_push weight acts a in
    push ∙ ap (λ (t : Bool). waits_in acts + cond t 1 0) e

pub waits-same : (acts : List Act) (a : Act) (n : ℕ) → is_wait a ≡ false → waits_in acts ≡ n → waits_in (acts ++ a ∷ []) ≡ n
waits-same acts a n e k = let p = waits_pushed acts a false e in omega (arith, p, k)

pub waits-one : (acts : List Act) (a : Act) (n : ℕ) → is_wait a ≡ true → waits_in acts ≡ n → waits_in (acts ++ a ∷ []) ≡ n + 1
waits-one acts a n e k = let p = waits_pushed acts a true e in omega (arith, p, k)

-- ---- counts

pub stayed : (b : Bool) (old new : ℕ) → b ≡ false → Counts b old new → new ≡ old
stayed b old new e h = subst (λ (t : Bool). Counts t old new) e h

pub rose : (b : Bool) (first old new : ℕ) → b ≡ true → old ≡ first → Counts b old new → Counts true first new
rose b first old new e k h = subst (λ (n : ℕ). Counts true n new) k (subst (λ (t : Bool). Counts t old new) e h)

-- ---- one more act of a run

abbrev pub IsTransitive : {L : Type 0} → (L → L → Type 0) → Type 0
IsTransitive {L = L} leads = (old middle new : L) → leads old middle → leads middle new → leads old new

pub record Acted {L : Type 0} (state : L → LinkState) (leads : L → L → Type 0) (link link' : L) (a : Act) : Type 0 where
  pub calls : LinkCalls (Some a) (state link) (state link')
  pub led : leads link link'

-- an act after which the client goes on
pub record Goes {C : Type 0} (stands : C → List ℕ → Client → Type 0) (core' : C) (front : List ℕ) (j : Judge) (watch watch' : Watch) (a : Act) (Q : Flags → Client → Place) : Type 0 where
  pub calm : is_fault a ≡ false
  pub whole : is_break a ≡ false
  pub allowed : Allows j a
  pub flags : flags_after a j.client (client_after a j.client) (flags_of watch) ≡ flags_of watch'
  pub goes : (client_after a j.client).done ≡ None
  pub stood : stands core' front (client_after a j.client)
  pub there : (judge_after j a).place ≡ Q (judge_after j a).flags (judge_after j a).client

pub stage-more : {C L : Type 0} (stands : C → List ℕ → Client → Type 0) (state : L → LinkState) (leads : L → L → Type 0) (r : Course L) (core core' : C) (link link' : L) (watch watch' : Watch) (P Q : Flags → Client → Place) (a : Act) (w n : ℕ)
    → IsTransitive leads → Acted state leads link link' a
    → (st : Stage stands state leads r core link watch P)
    → Goes stands core' r.front st.judge watch watch' a Q
    → waits_in (st.acts ++ a ∷ []) ≡ w → length (client_after a st.judge.client).received ≤ most_moved * n
    → Stage stands state leads (record r { waits = w; reads = n }) core' link' watch' Q
stage-more stands state leads r core core' link link' watch watch' P Q a w n trans acted st go waits few =
    let next : Client = client_after a st.judge.client in
    record {
      acts = st.acts ++ a ∷ [];
      judge = judge_after st.judge a;
      made = made-more (first_judge r.first) (state r.link) (state link) (state link') st.acts st.judge a st.made go.allowed acted.calls.acts;
      waits = waits;
      faults = stayed (is_fault a) (state link).faults (state link').faults go.calm acted.calls.faults ∙ st.faults;
      breaks = stayed (is_break a) (state link).breaks (state link').breaks go.whole acted.calls.breaks ∙ st.breaks;
      led = trans r.link link link' st.led acted.led;
      flags = ap (flags_after a st.judge.client next) st.flags ∙ go.flags;
      goes = go.goes;
      few = few;
      stood = go.stood;
      there = go.there;
    }

-- the place is called another way, or the attendant is another one, or more reads count
pub elsewhere : {C L : Type 0} (stands : C → List ℕ → Client → Type 0) (state : L → LinkState) (leads : L → L → Type 0) (r : Course L) (core core' : C) (link : L) (watch : Watch) (P Q : Flags → Client → Place) (front : List ℕ) (n : ℕ)
    → (st : Stage stands state leads r core link watch P) → stands core' front st.judge.client → r.reads ≤ n → st.judge.place ≡ Q st.judge.flags st.judge.client
    → Stage stands state leads (record r { front = front; reads = n }) core' link watch Q
elsewhere stands state leads r core core' link watch P Q front n st stood more there = record {
  acts = st.acts;
  judge = st.judge;
  made = st.made;
  waits = st.waits;
  faults = st.faults;
  breaks = st.breaks;
  led = st.led;
  flags = st.flags;
  goes = st.goes;
  few = (let k = st.few in omega (arith, k, more));
  stood = stood;
  there = there;
}
