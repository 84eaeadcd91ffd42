-- What connections take, at each moment of a run, at each wait and when the run has quit.
use Rattle.std.specs.Prelude.{◌≡◌, refl, ℕ, true, ◌&&◌, List, [], ◌∷◌, ◌++◌}
use Rattle.std.specs.List.{list_all}
use Rattle.std.proofs.Common.{ap, sym, subst, ◌∙◌, inl, inr}
use Rattle.std.proofs.lemmas.Bool.{and_parts}
use Rattle.std.proofs.lemmas.List.{append-nil}
use Rattle.std.proofs.lemmas.List.Folds.{list_all-append}
use Rattle.std.proofs.lemmas.Grind.{flat_map-append}
use Rattle.share_base.specs.Fronts.{IsFront}
use Rattle.hub_acts.specs.declared.act.Act.{Act}
use Rattle.hub_acts.specs.declared.act.Act.TheVariants as act
use Rattle.machine.specs.Targets.{Entry}
use Rattle.machine.specs.Connections.{serials}
use Rattle.machine.specs.States.{State}
use Rattle.machine.specs.Queues.{queue}
use Rattle.machine.specs.Readings.{is_over}
use Rattle.reached_states.specs.Reaching.{Origin, start_of}
use Rattle.attentive_acts.specs.Telling.{state_after}
use Rattle.attentive_acts.specs.Flags.{has_more}
use Rattle.attentive_acts.specs.Places.{Place, Leaves, after_first, place_after}
use Rattle.attentive_acts.specs.Judging.{Judge, AllowsAt, Follows, judge_after, judged, first_judge, leaving}
use Rattle.attentive_acts.specs.Laws.{taken_in, taken_bytes}
use Rattle.attentive_acts.specs.Offered.{is_answered}
use Rattle.attentive_acts.proofs.TakenPrefixes.{taken-in-order}
use Rattle.attentive_acts.proofs.TakenAtWaits.{all-taken-at-waits}
use Rattle.attentive_acts.proofs.TakenOnQuit.{all-taken-on-quit}
use Rattle.headline.specs.Moments.{state_over, Throughout}
use Rattle.headline.specs.Taking.{TakesInOrder, TakesAll}
use Rattle.headline.specs.Sharing.{AreAttended}
use Rattle.headline.proofs.Moments.{state-over, state-left, Moment, moments}

-- ---- closings

-- closings take nothing, and tell nobody anything
record Rests (c : ℕ) (acts : List Act) (s next : State) : Type 0 where
  takes : taken_bytes c acts ≡ []
  tells : next.routed ≡ s.routed

act_rests : (c : ℕ) (rest : List ℕ) (j : Judge) (a : Act) → AllowsAt (Leaves rest) j a → Rests c (a ∷ []) j.state (state_after a j.state)
act_rests c [] j a w = absurd w
act_rests c (n ∷ rest) j (act.Close d) w = record { takes = refl; tells = refl }
act_rests c (n ∷ rest) j a w = absurd w

closings_rest : (c : ℕ) (rest : List ℕ) (j : Judge) (acts : List Act) → j.place ≡ Leaves rest → Follows j acts → Rests c acts j.state (judged j acts).state
closings_rest c rest j [] place w = record { takes = refl; tells = refl }
closings_rest c rest j (a ∷ acts) place w =
    let next : Judge = judge_after j a in
    let there : next.place ≡ Leaves (after_first rest) = ap (λ (p : Place). place_after p a next.flags next.state) place in
    let one : Rests c (a ∷ []) j.state next.state = act_rests c rest j a (subst (λ (p : Place). AllowsAt p j a) place w.0) in
    let more : Rests c acts next.state (judged next acts).state = closings_rest c (after_first rest) next acts there w.1 in
    record {
      takes = flat_map-append (taken_in c) (a ∷ []) acts ∙ ap (λ (xs : List ℕ). xs ++ taken_bytes c acts) one.takes ∙ more.takes;
      tells = more.tells ∙ one.tells;
    }

-- ---- in order

in_order : (o : Origin) (turns closings : List Act) → Follows (first_judge (start_of o)) turns → Follows (leaving (judged (first_judge (start_of o)) turns)) closings → TakesInOrder o (turns ++ closings)
in_order o turns closings w v c =
    let j : Judge = judged (first_judge (start_of o)) turns in
    let rests = closings_rest c (serials j.state.connections) (leaving j) closings refl v in
    let bytes : taken_bytes c (turns ++ closings) ≡ taken_bytes c turns = flat_map-append (taken_in c) turns closings ∙ ap (λ (xs : List ℕ). taken_bytes c turns ++ xs) rests.takes ∙ append-nil (taken_bytes c turns) in
    let queued : queue (state_over o (turns ++ closings)).routed c ≡ queue j.state.routed c = ap (λ (s : State). queue s.routed c) (state-left o turns closings) ∙ ap (λ (es : List Entry). queue es c) rests.tells in
    subst (IsFront (taken_bytes c (turns ++ closings))) (sym queued)
    (subst (λ (xs : List ℕ). IsFront xs (queue j.state.routed c)) (sym bytes) (taken-in-order o.config o.script o.now turns w c))

pub takes-in-order : (o : Origin) (turns closings : List Act) → AreAttended o turns closings → Throughout (TakesInOrder o) (turns ++ closings)
takes-in-order o turns closings w before after e =
    let m : Moment o before = moments o turns closings w before after e in
    subst (TakesInOrder o) (sym m.acts_are) (in_order o m.turns m.closings m.attentive m.leave)

-- ---- all of it

pub takes-all : (o : Origin) (turns closings : List Act) → AreAttended o turns closings → TakesAll o turns
takes-all o turns closings w = record {
  at_waits = λ before after ms answer marks e c more.
      let rest : List Act = act.Wait ms answer marks ∷ after in
      let all : (list_all is_answered before && list_all is_answered rest) ≡ true = sym (list_all-append is_answered before rest) ∙ subst (λ (xs : List Act). list_all is_answered xs ≡ true) e w.answered in
      all-taken-at-waits o.config o.script o.now before after ms answer marks (subst (Follows (first_judge (start_of o))) e w.attentive) (and_parts (list_all is_answered before) (list_all is_answered rest) all).0 c
      (subst (λ (s : State). has_more s c ≡ true) (state-over o before) more);
  on_quit = λ quit c accepted.
      let over = subst (λ (s : State). is_over s ≡ true) (state-over o turns) quit.over in
      elim (all-taken-on-quit o.config o.script o.now turns w.attentive quit.ready over c accepted) [
        | inl cut ↦ inl cut
        | inr all ↦ inr (all ∙ ap (λ (s : State). queue s.routed c) (sym (state-over o turns)))
      ];
}
