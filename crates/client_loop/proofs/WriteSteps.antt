-- A write, with each answer.
use Rattle.std.specs.Prelude.{◌≡◌, refl, ℕ, zero, suc, ◌+◌, ◌<◌, ◌≤◌, min, nat_le, nat_lt, ◌==◌, Bool, true, false, ◌&&◌, cond, List, [], ◌∷◌, ◌++◌, length, take, drop, Option, Some, None}
use Rattle.std.proofs.Common.{arith, ap, sym, subst, ◌∙◌}
use Rattle.std.proofs.lemmas.List.{length-append, take-append-drop, length-take, take_all}
use Rattle.std.proofs.lemmas.Bool.Decides.{nat_tests}
use Rattle.hub_acts.specs.declared.act.Act.{Act}
use Rattle.hub_acts.specs.declared.act.Act.TheVariants as act
use Rattle.hub_acts.specs.declared.answers.WriteAnswer.{WriteAnswer}
use Rattle.hub_acts.specs.declared.answers.WriteAnswer.TheVariants as written
use Rattle.hub_acts.specs.Hubs.{FitsWrite}
use Rattle.hub_acts.specs.Links.{LinkState}
use Rattle.client_core.specs.declared.client_end.ClientEnd.{ClientEnd}
use Rattle.client_core.specs.declared.client_end.ClientEnd.TheVariants as end
use Rattle.client_core.specs.declared.client_end.LostCause.TheVariants as lost
use Rattle.client_core.specs.Clients.{Client}
use Rattle.client_talk.specs.Talks.{Talk}
use Rattle.client_talk.specs.Talks as talks
use Rattle.std.specs.Option.{option_map}
use Rattle.client_core.specs.Happenings.{sent, untaken, untaken_of, took}
use Rattle.attentive_links.specs.Telling.{client_after}
use Rattle.attentive_links.specs.Flags.{Flags, has_untaken, is_writable}
use Rattle.attentive_links.specs.Places.{Place, Waits, Writes, at_writes, unless_done, place_after}
use Rattle.attentive_links.specs.Judging.{Allows, AllowsAt, judge_after, most_moved, piece_of}
use Rattle.client_loop.specs.declared.watch.Watch.{Watch}
use Rattle.client_loop.specs.Attendants.{Reads, MayTake, Becomes}
use Rattle.client_loop.specs.Stages.{Course, Stage, is_wait, waits_in}
use Rattle.client_loop.specs.Ends.{Halt}
use Rattle.client_loop.proofs.MoreActs.{IsTransitive, Acted, stage-more, elsewhere, waits-same}
use Rattle.client_loop.proofs.Halts.{halt-more, failed-stops}
use Rattle.client_loop.proofs.TellSteps.{made_of}
use Rattle.client_loop.proofs.ReadSteps.{unmarked}

and_false : (b : Bool) → (b && false) ≡ false
and_false true = refl
and_false false = refl

cut_short : (queue : List ℕ) → take (min (length queue) most_moved) queue ≡ take most_moved queue
cut_short queue = by (nat_le (length queue) most_moved) refl
  where
    by : (b : Bool) → nat_le (length queue) most_moved ≡ b → take (min (length queue) most_moved) queue ≡ take most_moved queue
    by true e =
        let le : length queue ≤ most_moved = grind (arith, nat_tests, e) in
        take_all (min (length queue) most_moved) queue (omega (arith, le)) ∙ sym (take_all most_moved queue le)
    by false e =
        let le : most_moved ≤ length queue = grind (arith, nat_tests, e) in
        let is : min (length queue) most_moved ≡ most_moved = omega (arith, le) in
        ap (λ (n : ℕ). take n queue) is

drop_none : (n : ℕ) → drop {A = ℕ} n [] ≡ []
drop_none zero = refl
drop_none (suc m) = refl

left_by : (n : ℕ) (talk : Option Talk) → untaken_of (option_map (talks.took n) talk) ≡ drop n (untaken_of talk)
left_by n None = sym (drop_none n)
left_by n (Some t) = refl

sent_once : (n : ℕ) (c : Client) → length (sent (took n c)) ≡ length (sent c)
sent_once n c =
    let left : untaken (took n c) ≡ drop n (untaken c) = left_by n c.talk in
    let new : length (sent (took n c)) ≡ length (c.taken ++ take n (untaken c)) + length (untaken (took n c)) = length-append (c.taken ++ take n (untaken c)) (untaken (took n c)) in
    let front : length (c.taken ++ take n (untaken c)) ≡ length c.taken + length (take n (untaken c)) = length-append c.taken (take n (untaken c)) in
    let rest : length (untaken (took n c)) ≡ length (drop n (untaken c)) = ap length left in
    let split : length (take n (untaken c) ++ drop n (untaken c)) ≡ length (take n (untaken c)) + length (drop n (untaken c)) = length-append (take n (untaken c)) (drop n (untaken c)) in
    let whole : length (take n (untaken c) ++ drop n (untaken c)) ≡ length (untaken c) = ap length (take-append-drop n (untaken c)) in
    let old : length (sent c) ≡ length c.taken + length (untaken c) = length-append c.taken (untaken c) in
    omega (arith, new, front, rest, split, whole, old)

module _ {C L : Type 0} (stands : C → List ℕ → Client → Type 0) (state : L → LinkState) (leads : L → L → Type 0) (r : Course L) (core : C) (link : L) (watch : Watch) (st : Stage stands state leads r core link watch at_writes) where
  abbrev pub IsWaiting : Flags → Client → Place
  IsWaiting fs c = Waits

  pass_if : is_writable st.judge.flags st.judge.client ≡ false → Stage stands state leads r core link watch IsWaiting
  pass_if e = elsewhere stands state leads r core core link watch at_writes IsWaiting r.front r.reads st st.stood (omega arith) (st.there ∙ ap (λ (b : Bool). cond b Writes Waits) e)

  -- it is passed by
  pub not-flagged : watch.writes ≡ false → Stage stands state leads r core link watch IsWaiting
  not-flagged e = pass_if (ap (λ (f : Flags). f.writes && has_untaken st.judge.client) st.flags ∙ ap (λ (b : Bool). b && has_untaken st.judge.client) e)

  queue_is : (queue : List ℕ) → Reads stands core queue untaken → queue ≡ untaken st.judge.client
  queue_is queue reads = reads r.front st.judge.client st.stood

  pub none-queued : (queue : List ℕ) → Reads stands core queue untaken → (length queue == 0) ≡ true → Stage stands state leads r core link watch IsWaiting
  none-queued queue reads none =
      let empty : length queue ≡ 0 = grind (arith, nat_tests, none) in
      let zero_is : length (untaken st.judge.client) ≡ 0 = sym (ap length (queue_is queue reads)) ∙ empty in
      pass_if (ap (λ (n : ℕ). st.judge.flags.writes && nat_lt 0 n) zero_is ∙ and_false st.judge.flags.writes)

  module _ (trans : IsTransitive leads) (link' : L) (flag : watch.writes ≡ true) (queue : List ℕ) (reads : Reads stands core queue untaken) (some : (length queue == 0) ≡ false) (piece : List ℕ) (cut : piece ≡ take (min (length queue) most_moved) queue) where
    has : has_untaken st.judge.client ≡ true
    has =
        let more : 0 < length queue = grind (arith, nat_tests, some) in
        let k : 0 < length (untaken st.judge.client) = subst (λ (xs : List ℕ). 0 < length xs) (queue_is queue reads) more in
        grind (arith, nat_tests, k)

    writable : is_writable st.judge.flags st.judge.client ≡ true
    writable = ap (λ (f : Flags). f.writes && has_untaken st.judge.client) st.flags ∙ ap (λ (b : Bool). b && has_untaken st.judge.client) flag ∙ has

    piece_is : piece ≡ piece_of st.judge.client
    piece_is = cut ∙ cut_short queue ∙ ap (take most_moved) (queue_is queue reads)

    is_here : st.judge.place ≡ Writes
    is_here = st.there ∙ ap (λ (b : Bool). cond b Writes Waits) writable

    allowed_so : (answer : WriteAnswer) → FitsWrite answer (length piece) → Allows st.judge (act.LinkWrite piece answer)
    allowed_so answer fits = subst (λ (q : Place). AllowsAt q st.judge (act.LinkWrite piece answer)) (sym is_here) (piece_is, fits, writable)

    place_is : (a : Act) → (judge_after st.judge a).place ≡ unless_done (client_after a st.judge.client).done Waits
    place_is a = ap (λ (p : Place). place_after p a (judge_after st.judge a).flags (client_after a st.judge.client)) is_here

    waits_few : r.waits ≤ r.turns → (a : Act) → is_wait a ≡ false → waits_in (st.acts ++ a ∷ []) ≤ r.turns
    waits_few le a e = let k = waits-same st.acts a r.waits e st.waits in omega (arith, k, le)

    pub may-take : (n : ℕ) → FitsWrite (written.Took n) (length piece) → MayTake stands core n
    may-take n fits = (
      r.front,
      st.judge.client,
      st.stood,
      let l = length-take most_moved (untaken st.judge.client) in let p = ap length piece_is in let k = fits.1 in omega (arith, l, p, k),
    )

    pub took-writes : (n : ℕ) → FitsWrite (written.Took n) (length piece) → (core' : C) → Becomes stands core core' (took n) → Acted state leads link link' (act.LinkWrite piece (written.Took n)) → Stage stands state leads r core' link' watch IsWaiting
    took-writes n fits core' becomes acted =
        let a : Act = act.LinkWrite piece (written.Took n) in
        stage-more stands state leads r core core' link link' watch watch at_writes IsWaiting a r.waits r.reads trans acted st (record {
          calm = refl;
          whole = refl;
          allowed = allowed_so (written.Took n) fits;
          flags = ap (made_of watch.reads) (unmarked watch.writes st.judge.client (took n st.judge.client) (sent_once n st.judge.client));
          goes = st.goes;
          stood = becomes r.front st.judge.client st.stood;
          there = place_is a ∙ ap (λ (d : Option ClientEnd). unless_done d Waits) st.goes;
        }) (waits-same st.acts a r.waits refl st.waits) st.few

    pub none-writes : Acted state leads link link' (act.LinkWrite piece written.NotNow) → Stage stands state leads r core link' (record watch { writes = false }) IsWaiting
    none-writes acted =
        let a : Act = act.LinkWrite piece written.NotNow in
        stage-more stands state leads r core core link link' watch (record watch { writes = false }) at_writes IsWaiting a r.waits r.reads trans acted st (record {
          calm = refl;
          whole = refl;
          allowed = allowed_so written.NotNow tt;
          flags = ap (made_of watch.reads) (unmarked false st.judge.client st.judge.client refl);
          goes = st.goes;
          stood = st.stood;
          there = place_is a ∙ ap (λ (d : Option ClientEnd). unless_done d Waits) st.goes;
        }) (waits-same st.acts a r.waits refl st.waits) st.few

    pub failed-writes : r.waits ≤ r.turns → Acted state leads link link' (act.LinkWrite piece written.Failed) → Halt stands state leads r (end.Lost lost.Failed) core link'
    failed-writes le acted =
        let a : Act = act.LinkWrite piece written.Failed in
        halt-more stands state leads r core core link link' watch at_writes a (end.Lost lost.Failed) (client_after a st.judge.client) r.waits r.reads trans acted st
        (failed-stops stands state leads r core link watch at_writes a st (allowed_so written.Failed tt) (waits_few le a refl) refl refl refl)
