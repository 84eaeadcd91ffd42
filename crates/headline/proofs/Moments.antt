-- Each moment of a run: the acts so far are some of the turns, or all of these and some of the closings.
use Rattle.std.specs.Prelude.{◌≡◌, refl, List, [], ◌∷◌, ◌++◌, Option, Some, None}
use Rattle.std.specs.List.{cons_option}
use Rattle.std.proofs.Common.{ap, sym, subst, ◌∙◌}
use Rattle.std.proofs.lemmas.List.{append-nil}
use Rattle.std.proofs.lemmas.List.Elements.{filter_map-append}
use Rattle.hub_acts.specs.declared.act.Act.{Act}
use Rattle.machine.specs.States.{State}
use Rattle.machine.specs.Happenings.{Happening}
use Rattle.machine.specs.Steps.{step, run}
use Rattle.reached_states.specs.Reaching.{Origin, start_of, Reached}
use Rattle.attentive_acts.specs.Telling.{happening_of, happenings, step_if}
use Rattle.attentive_acts.specs.Judging.{Judge, Follows, judge_after, judged, first_judge, leaving}
use Rattle.attentive_acts.proofs.SingleActs.{follows-front}
use Rattle.attentive_acts.proofs.ReachedActs.{attentive-is-reached}
use Rattle.headline.specs.Moments.{state_over, Throughout}
use Rattle.headline.specs.Sharing.{AreAttended}

-- ---- where acts lead

run_append : (hs ks : List Happening) (s : State) → run (hs ++ ks) s ≡ run ks (run hs s)
run_append [] ks s = refl
run_append (h ∷ hs) ks s = run_append hs ks (step s h)

one_act : (h : Option Happening) (hs : List Happening) (s : State) → run (cons_option h hs) s ≡ run hs (step_if h s)
one_act None hs s = refl
one_act (Some h) hs s = refl

judged_state : (j : Judge) (acts : List Act) → (judged j acts).state ≡ run (happenings acts) j.state
judged_state j [] = refl
judged_state j (a ∷ acts) = judged_state (judge_after j a) acts ∙ sym (one_act (happening_of a) (happenings acts) j.state)

pub state-over : (o : Origin) (acts : List Act) → state_over o acts ≡ (judged (first_judge (start_of o)) acts).state
state-over o acts = sym (judged_state (first_judge (start_of o)) acts)

pub state-left : (o : Origin) (turns closings : List Act) → state_over o (turns ++ closings) ≡ (judged (leaving (judged (first_judge (start_of o)) turns)) closings).state
state-left o turns closings =
    ap (λ (hs : List Happening). run hs (start_of o)) (filter_map-append happening_of turns closings)
    ∙ run_append (happenings turns) (happenings closings) (start_of o)
    ∙ ap (run (happenings closings)) (state-over o turns)
    ∙ sym (judged_state (leaving (judged (first_judge (start_of o)) turns)) closings)

-- ---- fronts

-- a front of two lists is one of the first, or goes on into the second
data FrontOf (xs ys before : List Act) : Type 0 where
  within : (rest : List Act) → xs ≡ before ++ rest → FrontOf xs ys before
  beyond : (front rest : List Act) → before ≡ xs ++ front → ys ≡ front ++ rest → FrontOf xs ys before

front_of : (xs ys before after : List Act) → xs ++ ys ≡ before ++ after → FrontOf xs ys before
front_of xs ys [] after e = within xs refl
front_of [] ys (b ∷ before) after e = beyond (b ∷ before) after refl e
front_of (x ∷ xs) ys (b ∷ before) after e =
    let head : x ≡ b = cc in
    elim (front_of xs ys before after (let tail : xs ++ ys ≡ before ++ after = cc in tail)) [
      | within rest k ↦ within rest (ap (λ (zs : List Act). x ∷ zs) k ∙ ap (λ (z : Act). z ∷ (before ++ rest)) head)
      | beyond front rest k l ↦ beyond front rest (ap (λ (zs : List Act). b ∷ zs) k ∙ ap (λ (z : Act). z ∷ (xs ++ front)) (sym head)) l
    ]

-- ---- moments

pub record Moment (o : Origin) (acts : List Act) : Type 0 where
  pub turns : List Act
  pub closings : List Act
  pub acts_are : acts ≡ turns ++ closings
  pub attentive : Follows (first_judge (start_of o)) turns
  pub leave : Follows (leaving (judged (first_judge (start_of o)) turns)) closings

pub moments : (o : Origin) (turns closings : List Act) → AreAttended o turns closings → Throughout (Moment o) (turns ++ closings)
moments o turns closings w before after e = elim (front_of turns closings before after e) [
  | within rest k ↦ record {
    turns = before;
    closings = [];
    acts_are = sym (append-nil before);
    attentive = follows-front (first_judge (start_of o)) before rest (subst (Follows (first_judge (start_of o))) k w.attentive);
    leave = tt;
  }
  | beyond front rest k l ↦ record {
    turns = turns;
    closings = front;
    acts_are = k;
    attentive = w.attentive;
    leave = follows-front (leaving (judged (first_judge (start_of o)) turns)) front rest (subst (Follows (leaving (judged (first_judge (start_of o)) turns))) l w.leave);
  }
]

-- the machine reaches the state of each
pub moment-reached : (o : Origin) (acts : List Act) (m : Moment o acts) → Reached o (judged (leaving (judged (first_judge (start_of o)) m.turns)) m.closings).latest (state_over o acts)
moment-reached o acts m =
    let latest = (judged (leaving (judged (first_judge (start_of o)) m.turns)) m.closings).latest in
    let r = (attentive-is-reached o m.turns m.attentive).closings m.closings m.leave in
    subst (Reached o latest) (sym (ap (state_over o) m.acts_are ∙ state-left o m.turns m.closings)) r.state
