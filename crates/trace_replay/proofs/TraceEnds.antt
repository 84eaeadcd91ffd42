-- A run over a trace doesn't use up its waits, and no wait of it fails.
use Rattle.std.specs.Prelude.{◌≡◌, refl, ℕ, suc, ◌+◌, ◌≤◌, Bool, true, false, cond, List, [], ◌∷◌, ◌++◌, drop, count_by}
use Rattle.std.specs.List.{list_all, prefix_len}
use Rattle.std.proofs.Common.{arith, ap, sym, subst, ◌∙◌}
use Rattle.std.proofs.lemmas.Bool.{and_parts, and_from}
use Rattle.std.proofs.lemmas.List.Folds.{list_all-append}
use Rattle.std.proofs.lemmas.List.Sums.{sum_by-cons, fold_push}
use Rattle.share_base.specs.Writing.{SinkState}
use Rattle.screen_config.specs.Configurations.{Configuration}
use Rattle.script_screen.specs.Scripts.{ScriptText}
use Rattle.script_screen.specs.Traces.{BeginsWithTurn, IsTrace}
use Rattle.script_screen.specs.declared.trace.TraceLine.{TraceLine}
use Rattle.script_screen.specs.declared.trace.TraceLine.TheVariants as line
use Rattle.hub_acts.specs.declared.act.Act.{Act}
use Rattle.hub_acts.specs.declared.act.Act.TheVariants as act
use Rattle.hub_acts.specs.declared.answers.Waited.{Waited}
use Rattle.hub_acts.specs.declared.answers.Waited.TheVariants as waited
use Rattle.hub_acts.specs.declared.answers.LinkWaited.{LinkWaited}
use Rattle.hub_acts.specs.declared.marks.Mark.{Mark}
use Rattle.hub_mem.specs.Stories.{Story, is_in_turn, turn_length, brings_turn, lines_brought, story_after, story_of}
use Rattle.hub_mem.specs.Answers.{Played, turn_wait}
use Rattle.hub_mem.specs.Playing.{AreGiven, given_by, with_act}
use Rattle.machine.specs.States.{State}
use Rattle.attentive_acts.specs.Flags.{Flags}
use Rattle.attentive_acts.specs.Places.{Place, Waits, Asks, Accepts, Reads, Writes, Closes, Leaves, place_after, after_wait}
use Rattle.attentive_acts.specs.Judging.{Judge, AllowsAt, Follows, judged, judge_after}
use Rattle.engine_loop.specs.declared.serve_end.ServeEnd.{ServeEnd}
use Rattle.engine_loop.specs.declared.serve_end.ServeEnd.TheVariants as ends
use Rattle.engine_loop.specs.Stages.{is_wait, waits_in}
use Rattle.trace_replay.specs.Replaying.{Replayed, played, is_turn, first_of}
use Rattle.trace_replay.specs.Switches.{IsReplayEnd}

-- a trace of which these acts were made
abbrev after_acts : List TraceLine → List Act → Played
after_acts lines acts = record { lines = lines; failing = []; acts = acts }

given_front : (p : Played) (first second : List Act) → AreGiven p (first ++ second) → AreGiven p first
given_front p [] second g = tt
given_front p (a ∷ first) second g = (g.0, given_front (with_act a p) first second g.1)

-- ---- no wait fails

abbrev holds : Act → Bool
holds (act.Wait ms waited.Failed marks) = false
holds a = true

turn_holds : (p : Played) (ms : ℕ) (ahead : List TraceLine) → holds (turn_wait p ms ahead) ≡ true
turn_holds p ms [] = refl
turn_holds p ms (l ∷ ls) = refl

act_holds : (lines : List TraceLine) (before : List Act) (a : Act) → a ≡ given_by (after_acts lines before) a → holds a ≡ true
act_holds lines before (act.Wait ms answer marks) e =
    ap holds e ∙ turn_holds (after_acts lines before) ms (story_of lines before).ahead
act_holds lines before a e = refl

all_hold : (lines : List TraceLine) (before acts : List Act) → AreGiven (after_acts lines before) acts → list_all holds acts ≡ true
all_hold lines before [] g = refl
all_hold lines before (a ∷ acts) g =
    and_from (holds a) (list_all holds acts) (act_holds lines before a g.0) (all_hold lines (before ++ a ∷ []) acts g.1)

no_fault : (trace : List TraceLine) (before : List Act) (ms : ℕ) (run : List Act) → run ≡ before ++ act.Wait ms waited.Failed [] ∷ [] → AreGiven (played trace) run → ⊥
no_fault trace before ms run is g =
    let last : Act = act.Wait ms waited.Failed [] in
    let all : list_all holds (before ++ last ∷ []) ≡ true = ap (list_all holds) (sym is) ∙ all_hold trace [] run g in
    let parts = and_parts (list_all holds before) (list_all holds (last ∷ [])) (sym (list_all-append holds before (last ∷ [])) ∙ all) in
    let failed : false ≡ true = parts.1 in
    absurd (let x : ⊥ = cc in x)

-- ---- a run that was ended by a wait makes no further one

abbrev IsLeft : Place → Type 0
IsLeft (Leaves rest) = Unit {0}
IsLeft place = ⊥

left_stays : (place : Place) (a : Act) (fs : Flags) (s : State) → IsLeft place → IsLeft (place_after place a fs s)
left_stays (Leaves rest) a fs s h = tt
left_stays place a fs s h = absurd h

stays_left : (acts : List Act) (j : Judge) → IsLeft j.place → IsLeft (judged j acts).place
stays_left [] j h = h
stays_left (a ∷ acts) j h = stays_left acts (judge_after j a) (left_stays j.place a (judge_after j a).flags (judge_after j a).state h)

over_leaves : (place : Place) (j : Judge) (ms : ℕ) (answer : Waited) (marks : List Mark) (fs : Flags) (s : State) → AllowsAt place j (act.Wait ms answer marks) → answer ≡ waited.Over
    → IsLeft (place_after place (act.Wait ms answer marks) fs s)
over_leaves Waits j ms answer marks fs s h e = subst (λ (w : Waited). IsLeft (after_wait (act.Wait ms w marks) s)) (sym e) tt
over_leaves Asks j ms answer marks fs s h e = absurd h
over_leaves (Accepts left) j ms answer marks fs s h e = absurd h
over_leaves (Reads []) j ms answer marks fs s h e = absurd h
over_leaves (Reads (c ∷ rest)) j ms answer marks fs s h e = absurd h
over_leaves (Writes []) j ms answer marks fs s h e = absurd h
over_leaves (Writes (c ∷ rest)) j ms answer marks fs s h e = absurd h
over_leaves Closes j ms answer marks fs s h e = absurd h
over_leaves (Leaves []) j ms answer marks fs s h e = absurd h
over_leaves (Leaves (c ∷ rest)) j ms answer marks fs s h e = absurd h

no_link : (place : Place) (j : Judge) (ms : ℕ) (answer : LinkWaited) → AllowsAt place j (act.LinkWait ms answer) → ⊥
no_link Waits j ms answer h = h
no_link Asks j ms answer h = h
no_link (Accepts left) j ms answer h = h
no_link (Reads []) j ms answer h = h
no_link (Reads (c ∷ rest)) j ms answer h = h
no_link (Writes []) j ms answer h = h
no_link (Writes (c ∷ rest)) j ms answer h = h
no_link Closes j ms answer h = h
no_link (Leaves []) j ms answer h = h
no_link (Leaves (c ∷ rest)) j ms answer h = h

-- ---- each wait brings a turn

abbrev turns_in : List TraceLine → ℕ
turns_in lines = count_by is_turn lines

turns-cons : (l : TraceLine) (ls : List TraceLine) → turns_in (l ∷ ls) ≡ cond (is_turn l) 1 0 + turns_in ls
turns-cons l ls = sum_by-cons (λ x. cond (is_turn x) 1 0) l ls

waits-cons : (a : Act) (acts : List Act) → waits_in (a ∷ acts) ≡ cond (is_wait a) 1 0 + waits_in acts
waits-cons a acts = sum_by-cons (λ x. cond (is_wait x) 1 0) a acts

drop_one_more : (n : ℕ) (l : TraceLine) (ls : List TraceLine) → drop (1 + n) (l ∷ ls) ≡ drop n ls
drop_one_more n l ls = let e : 1 + n ≡ suc n = omega arith in ap (λ (k : ℕ). drop k (l ∷ ls)) e

-- after the other lines of a turn
abbrev after_turn : List TraceLine → List TraceLine
after_turn ls = drop (prefix_len is_in_turn ls) ls

record Begins (ls : List TraceLine) : Type 0 where
  turns : turns_in (after_turn ls) ≡ turns_in ls
  begins : BeginsWithTurn (after_turn ls)

one_passed : (l : TraceLine) (ls : List TraceLine) → is_in_turn l ≡ true → is_turn l ≡ false → Begins ls → Begins (l ∷ ls)
one_passed l ls inside is_none b =
    let moved : after_turn (l ∷ ls) ≡ after_turn ls =
    ap (λ (t : Bool). drop (cond t (1 + prefix_len is_in_turn ls) 0) (l ∷ ls)) inside ∙ drop_one_more (prefix_len is_in_turn ls) l ls in
    let none : turns_in (l ∷ ls) ≡ 0 + turns_in ls = turns-cons l ls ∙ ap (λ (t : Bool). cond t 1 0 + turns_in ls) is_none in
    record {
      turns = ap turns_in moved ∙ b.turns ∙ omega (arith, none);
      begins = subst BeginsWithTurn (sym moved) b.begins;
    }

begins_after : (ls : List TraceLine) → Begins ls
begins_after [] = record { turns = refl; begins = tt }
begins_after (line.Turn t ∷ ls) = record { turns = refl; begins = tt }
begins_after (line.Join c ∷ ls) = one_passed (line.Join c) ls refl refl (begins_after ls)
begins_after (line.Got c bytes ∷ ls) = one_passed (line.Got c bytes) ls refl refl (begins_after ls)
begins_after (line.End c ∷ ls) = one_passed (line.End c) ls refl refl (begins_after ls)
begins_after (line.Fail c ∷ ls) = one_passed (line.Fail c) ls refl refl (begins_after ls)
begins_after (line.Room c room ∷ ls) = one_passed (line.Room c room) ls refl refl (begins_after ls)

abbrev ahead_of : List TraceLine → List Act → List TraceLine
ahead_of lines before = (story_of lines before).ahead

ahead_more : (lines : List TraceLine) (before : List Act) (a : Act) → ahead_of lines (before ++ a ∷ []) ≡ drop (lines_brought (brings_turn a) (ahead_of lines before)) (ahead_of lines before)
ahead_more lines before a = ap (λ (s : Story). s.ahead) (fold_push story_after (record { scenes = []; ahead = lines }) before a)

-- no more waits than turns are ahead
abbrev AreFew : List TraceLine → List Act → List Act → Type 0
AreFew lines before acts = (j : Judge) → BeginsWithTurn (ahead_of lines before) → Follows j acts → AreGiven (after_acts lines before) acts → (judged j acts).place ≡ Waits
    → waits_in acts ≤ turns_in (ahead_of lines before)

other_act : (lines : List TraceLine) (before : List Act) (a : Act) (acts : List Act) → brings_turn a ≡ false → is_wait a ≡ false → AreFew lines (before ++ a ∷ []) acts → AreFew lines before (a ∷ acts)
other_act lines before a acts quiet is_none rest j b f g here =
    let same : ahead_of lines (before ++ a ∷ []) ≡ ahead_of lines before =
    ahead_more lines before a ∙ ap (λ (t : Bool). drop (lines_brought t (ahead_of lines before)) (ahead_of lines before)) quiet in
    let few : waits_in acts ≤ turns_in (ahead_of lines (before ++ a ∷ [])) = rest (judge_after j a) (subst BeginsWithTurn (sym same) b) f.1 g.1 here in
    let none : waits_in (a ∷ acts) ≡ 0 + waits_in acts = waits-cons a acts ∙ ap (λ (t : Bool). cond t 1 0 + waits_in acts) is_none in
    omega (arith, few, none, ap turns_in same)

abbrev answer_of : Act → Waited
answer_of (act.Wait ms answer marks) = answer
answer_of a = waited.Over

-- a wait, by what is ahead of it
wait_by : (lines : List TraceLine) (before : List Act) (ms : ℕ) (answer : Waited) (marks : List Mark) (acts : List Act) → AreFew lines (before ++ act.Wait ms answer marks ∷ []) acts
    → (j : Judge) → Follows j (act.Wait ms answer marks ∷ acts) → AreGiven (after_acts lines before) (act.Wait ms answer marks ∷ acts) → (judged j (act.Wait ms answer marks ∷ acts)).place ≡ Waits
    → (xs : List TraceLine) → ahead_of lines before ≡ xs → BeginsWithTurn xs → waits_in (act.Wait ms answer marks ∷ acts) ≤ turns_in (ahead_of lines before)
wait_by lines before ms answer marks acts rest j f g here [] e h =
    let a : Act = act.Wait ms answer marks in
    let over : answer ≡ waited.Over = ap answer_of g.0 ∙ ap (λ (xs : List TraceLine). answer_of (turn_wait (after_acts lines before) ms xs)) e in
    let left : IsLeft (judged (judge_after j a) acts).place =
    stays_left acts (judge_after j a) (over_leaves j.place j ms answer marks (judge_after j a).flags (judge_after j a).state f.0 over) in
    absurd (subst IsLeft here left)
wait_by lines before ms answer marks acts rest j f g here (line.Turn t ∷ ls) e h =
    let a : Act = act.Wait ms answer marks in
    let ready : answer ≡ waited.Ready = ap answer_of g.0 ∙ ap (λ (xs : List TraceLine). answer_of (turn_wait (after_acts lines before) ms xs)) e in
    let brings : brings_turn a ≡ true = ap (λ (w : Waited). brings_turn (act.Wait ms w marks)) ready in
    let moved : ahead_of lines (before ++ a ∷ []) ≡ after_turn ls =
    ahead_more lines before a ∙ ap (λ (q : Bool). drop (lines_brought q (ahead_of lines before)) (ahead_of lines before)) brings
    ∙ ap (λ (xs : List TraceLine). drop (turn_length xs) xs) e ∙ drop_one_more (prefix_len is_in_turn ls) (line.Turn t) ls in
    let few : waits_in acts ≤ turns_in (ahead_of lines (before ++ a ∷ [])) =
    rest (judge_after j a) (subst BeginsWithTurn (sym moved) (begins_after ls).begins) f.1 g.1 here in
    let after : turns_in (ahead_of lines (before ++ a ∷ [])) ≡ turns_in ls = ap turns_in moved ∙ (begins_after ls).turns in
    let before_it : turns_in (ahead_of lines before) ≡ 1 + turns_in ls = ap turns_in e ∙ turns-cons (line.Turn t) ls in
    let one : waits_in (a ∷ acts) ≡ 1 + waits_in acts = waits-cons a acts in
    omega (arith, few, after, before_it, one)
wait_by lines before ms answer marks acts rest j f g here (l ∷ ls) e h = absurd h

wait_act : (lines : List TraceLine) (before : List Act) (ms : ℕ) (answer : Waited) (marks : List Mark) (acts : List Act)
    → AreFew lines (before ++ act.Wait ms answer marks ∷ []) acts → AreFew lines before (act.Wait ms answer marks ∷ acts)
wait_act lines before ms answer marks acts rest j b f g here = wait_by lines before ms answer marks acts rest j f g here (ahead_of lines before) refl b

link_act : (lines : List TraceLine) (before : List Act) (ms : ℕ) (answer : LinkWaited) (acts : List Act) → AreFew lines before (act.LinkWait ms answer ∷ acts)
link_act lines before ms answer acts j b f g here = absurd (no_link j.place j ms answer f.0)

no_act : (lines : List TraceLine) (before : List Act) → AreFew lines before []
no_act lines before j b f g here = omega arith

few_waits : (lines : List TraceLine) (before acts : List Act) → AreFew lines before acts
few_waits lines before [] = no_act lines before
few_waits lines before (act.Wait ms answer marks ∷ acts) = wait_act lines before ms answer marks acts (few_waits lines (before ++ act.Wait ms answer marks ∷ []) acts)
few_waits lines before (act.LinkWait ms answer ∷ acts) = link_act lines before ms answer acts
few_waits lines before (a ∷ acts) = other_act lines before a acts refl refl (few_waits lines (before ++ a ∷ []) acts)

-- ---- the end

pub ends_by_trace : (config : Configuration) (script : ScriptText) (trace : List TraceLine) (end : ServeEnd) (old new : SinkState) → IsTrace trace → Replayed config script trace end old new → IsReplayEnd end
ends_by_trace config script trace ends.TurnsSpent old new sound r =
    let few : waits_in r.run ≤ turns_in trace =
    few_waits trace [] r.run (first_of config script) sound.first r.attentive (given_front (played trace) r.run r.leaves r.given) (ap (λ (j : Judge). j.place) r.judges ∙ r.cause.1) in
    let all : waits_in r.run ≡ turns_in trace + 1 = r.cause.0 in
    absurd (omega (arith, few, all))
ends_by_trace config script trace ends.HubFault old new sound r =
    no_fault trace r.cause.0 r.cause.1 r.run r.cause.2 (given_front (played trace) r.run r.leaves r.given)
ends_by_trace config script trace end old new sound r = tt
