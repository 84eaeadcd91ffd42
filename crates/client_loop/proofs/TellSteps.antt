-- A step in which the client is told something: the moment, or what was read.
use Rattle.std.specs.Prelude.{◌≡◌, refl, ℕ, ◌+◌, ◌*◌, ◌≤◌, nat_lt, Bool, true, false, ◌||◌, List, [], ◌∷◌, ◌++◌, length, Option, Result, Ok, Err}
use Rattle.std.proofs.Common.{arith, ap, sym, subst, ◌∙◌, inl, inr}
use Rattle.std.proofs.lemmas.List.{length-append}
use Rattle.std.proofs.lemmas.Bool.Decides.{nat_tests}
use Rattle.hub_acts.specs.declared.act.Act.{Act}
use Rattle.hub_acts.specs.declared.act.Act.TheVariants as act
use Rattle.hub_acts.specs.Counting.{is_fault, is_break}
use Rattle.hub_acts.specs.Links.{LinkState}
use Rattle.client_core.specs.declared.client_end.ClientEnd.{ClientEnd}
use Rattle.client_core.specs.declared.client_end.ClientEnd.TheVariants as end
use Rattle.client_core.specs.Clients.{Client}
use Rattle.client_core.specs.Happenings.{sent, untaken}
use Rattle.attentive_links.specs.Telling.{client_after}
use Rattle.attentive_links.specs.Flags.{Flags, flags_with, with_marks, sends_more}
use Rattle.attentive_links.specs.Places.{Place, Asks, at_reads, unless_done, place_after}
use Rattle.attentive_links.specs.Judging.{Judge, Allows, AllowsAt, judge_after, most_moved}
use Rattle.attentive_links.specs.InPart.{TakesInPart}
use Rattle.attentive_links.proofs.ClientSteps.{IsOwn}
use Rattle.attentive_links.proofs.Clients.{passes-taken, passes-own, passes-few}
use Rattle.client_loop.specs.declared.watch.Watch.{Watch}
use Rattle.client_loop.specs.Stages.{Course, Stage, AfterTelling, flags_of, is_wait, waits_in}
use Rattle.client_loop.specs.Ends.{AfterStep, Halt, is_broken}
use Rattle.client_loop.proofs.MoreActs.{IsTransitive, Acted, stage-more, waits-same}
use Rattle.client_loop.proofs.Halts.{halt-more, own-whole, own-stops, part-stops}

-- ---- marks

less_by : (n a b : ℕ) → nat_lt (n + a) (n + b) ≡ nat_lt a b
less_by n a b = by (nat_lt a b) refl
  where
    by : (t : Bool) → nat_lt a b ≡ t → nat_lt (n + a) (n + b) ≡ t
    by true e = grind (arith, nat_tests, e)
    by false e = grind (arith, nat_tests, e)

-- more is sent where more is queued, as nothing was taken
sends_as : (c d : Client) → d.taken ≡ c.taken → sends_more c d ≡ nat_lt (length (untaken c)) (length (untaken d))
sends_as c d same =
    let a : length (sent c) ≡ length c.taken + length (untaken c) = length-append c.taken (untaken c) in
    let b : length (sent d) ≡ length c.taken + length (untaken d) = length-append d.taken (untaken d) ∙ ap (λ (xs : List ℕ). length xs + length (untaken d)) same in
    ap (λ (n : ℕ). nat_lt n (length (sent d))) a ∙ ap (nat_lt (length c.taken + length (untaken c))) b ∙ less_by (length c.taken) (length (untaken c)) (length (untaken d))

or_none : (b : Bool) → (b || false) ≡ b
or_none true = refl
or_none false = refl

abbrev pub made_of : Bool → Bool → Flags
made_of reads writes = record { reads = reads; writes = writes }

marked : (fs : Flags) (c d : Client) → d.taken ≡ c.taken → record fs { writes = fs.writes || sends_more c d } ≡ with_marks false (nat_lt (length (untaken c)) (length (untaken d))) fs
marked fs c d same =
    ap (λ (b : Bool). record fs { writes = fs.writes || b }) (sends_as c d same)
    ∙ ap (λ (b : Bool). made_of b (fs.writes || nat_lt (length (untaken c)) (length (untaken d)))) (sym (or_none fs.reads))

-- ---- the step

-- the act tells the client something, and sets no flag but by that
pub record IsTold {C L : Type 0} (stands : C → List ℕ → Client → Type 0) (state : L → LinkState) (leads : L → L → Type 0) (r : Course L) (core : C) (link : L) (watch : Watch) (P Q : Flags → Client → Place) (a : Act) (st : Stage stands state leads r core link watch P) (w n : ℕ) : Type 0 where
  pub calm : is_fault a ≡ false
  pub whole : is_break a ≡ false
  pub goes : is_wait a ≡ false
  pub allowed : Allows st.judge a
  pub unmarked : flags_with a (flags_of watch) ≡ flags_of watch
  pub taken : (client_after a st.judge.client).taken ≡ st.judge.client.taken
  pub own : IsOwn (client_after a st.judge.client).done
  pub few : length (client_after a st.judge.client).received ≤ most_moved * n
  pub there : (judge_after st.judge a).place ≡ unless_done (client_after a st.judge.client).done (Q (judge_after st.judge a).flags (client_after a st.judge.client))

pub tell-step : {C L : Type 0} (stands : C → List ℕ → Client → Type 0) (state : L → LinkState) (leads : L → L → Type 0) (r : Course L) (core core' : C) (link link' : L) (watch watch' : Watch) (P Q : Flags → Client → Place) (a : Act) (n : ℕ) (result : Result (Unit {0}) ClientEnd)
    → IsTransitive leads → Acted state leads link link' a → r.waits ≤ r.turns
    → (st : Stage stands state leads r core link watch P) → IsTold stands state leads r core link watch P Q a st r.waits n
    → AfterTelling stands result core' watch watch' r.front st.judge.client (client_after a st.judge.client) (TakesInPart st.judge.client a)
    → AfterStep stands state leads (record r { reads = n }) result core' link' watch' Q
tell-step stands state leads r core core' link link' watch watch' P Q a n (Ok going) trans acted le st told h =
    let next : Client = client_after a st.judge.client in
    stage-more stands state leads r core core' link link' watch watch' P Q a r.waits n trans acted st (record {
      calm = told.calm;
      whole = told.whole;
      allowed = told.allowed;
      flags =
          ap (λ (fs : Flags). record fs { writes = fs.writes || sends_more st.judge.client next }) told.unmarked ∙ marked (flags_of watch) st.judge.client next told.taken
          ∙ sym h.2;
      goes = h.1;
      stood = h.0;
      there = told.there ∙ ap (λ (d : Option ClientEnd). unless_done d (Q (judge_after st.judge a).flags next)) h.1;
    }) (waits-same st.acts a r.waits told.goes st.waits) told.few
tell-step stands state leads r core core' link link' watch watch' P Q a n (Err e) trans acted le st told h =
    let next : Client = client_after a st.judge.client in
    let waits : waits_in (st.acts ++ a ∷ []) ≤ r.turns = let k = waits-same st.acts a r.waits told.goes st.waits in omega (arith, k, le) in
    elim h [
      | inl own ↦ (own-whole e (subst IsOwn own.1 told.own), halt-more stands state leads r core core' link link' watch P a e next r.waits n trans acted st (own-stops stands state leads r core core' link watch P a e st told.allowed waits told.calm told.whole told.own own.1 own.0))
      | inr part ↦ subst (λ (x : ClientEnd). (is_broken x ≡ false) × Halt stands state leads (record r { reads = n }) x core' link') (sym part.0)
          (refl, halt-more stands state leads r core core' link link' watch P a end.OutOfMemory part.1 r.waits n trans acted st (part-stops stands state leads r core core' link watch P a part.1 st told.allowed waits told.calm told.whole part.2 part.3))
    ]

-- ---- the moment

pub moment-told : {C L : Type 0} (stands : C → List ℕ → Client → Type 0) (state : L → LinkState) (leads : L → L → Type 0) (r : Course L) (core : C) (link : L) (watch : Watch) (t : ℕ)
    → (st : Stage stands state leads r core link watch (λ fs c. Asks)) → IsTold stands state leads r core link watch (λ fs c. Asks) at_reads (act.LinkNow t) st r.waits r.reads
moment-told stands state leads r core link watch t st =
    let a : Act = act.LinkNow t in
    let k : Judge = judge_after st.judge a in
    record {
      calm = refl;
      whole = refl;
      goes = refl;
      allowed = subst (λ (q : Place). AllowsAt q st.judge a) (sym st.there) tt;
      unmarked = refl;
      taken = passes-taken t st.judge.client;
      own = passes-own t st.judge.client (subst IsOwn (sym st.goes) tt);
      few = (let x = passes-few t st.judge.client in let y = st.few in omega (arith, x, y));
      there = ap (λ (p : Place). place_after p a k.flags k.client) st.there;
    }
