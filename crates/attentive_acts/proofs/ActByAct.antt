-- What holds before the first act, and goes on holding at each act that is due, holds after all.
use Rattle.std.specs.Prelude.{◌≡◌, refl, List, [], ◌∷◌, ◌++◌}
use Rattle.std.proofs.Common.{sym, subst, ◌∙◌, ap, append_assoc}
use Rattle.std.proofs.lemmas.List.{append-nil}
use Rattle.hub_acts.specs.declared.act.Act.{Act}
use Rattle.attentive_acts.specs.Judging.{Judge, Allows, Follows, judge_after, judged}

pub judged-more : (j : Judge) (before : List Act) (a : Act) → judged j (before ++ a ∷ []) ≡ judge_after (judged j before) a
judged-more j [] a = refl
judged-more j (b ∷ before) a = judged-more (judge_after j b) before a

-- an act is due at the judge after those before it
abbrev pub Continues : Judge → (List Act → Judge → Type 0) → Type 0
Continues first P = (before : List Act) (j : Judge) (a : Act) → j ≡ judged first before → Allows j a → P before j → P (before ++ a ∷ []) (judge_after j a)

along : (first : Judge) (P : List Act → Judge → Type 0) → Continues first P → (before : List Act) (j : Judge) (acts : List Act) → j ≡ judged first before → Follows j acts → P before j → P (before ++ acts) (judged j acts)
along first P next before j [] is w h = subst (λ (xs : List Act). P xs j) (sym (append-nil before)) h
along first P next before j (a ∷ acts) is w h =
    let after : judge_after j a ≡ judged first (before ++ a ∷ []) = ap (λ (k : Judge). judge_after k a) is ∙ sym (judged-more first before a) in
    subst (λ (xs : List Act). P xs (judged (judge_after j a) acts)) (append_assoc before (a ∷ []) acts)
    (along first P next (before ++ a ∷ []) (judge_after j a) acts after w.1 (next before j a is w.0 h))

pub act-by-act : (first : Judge) (P : List Act → Judge → Type 0) → Continues first P → P [] first → (acts : List Act) → Follows first acts → P acts (judged first acts)
act-by-act first P next h acts w = along first P next [] first acts refl w h
