-- A run that ends well and its closings are one list of acts that are due.
use Rattle.std.specs.Prelude.{◌≡◌, refl, ℕ, true, ◌==◌, List, [], ◌∷◌, ◌++◌, length}
use Rattle.std.proofs.Common.{ap, sym, subst, ◌∙◌, arith}
use Rattle.std.proofs.lemmas.Bool.{and_parts}
use Rattle.std.proofs.lemmas.Bool.Decides.{nat_tests}
use Rattle.std.proofs.lemmas.List.{nil_from_length}
use Rattle.hub_acts.specs.declared.act.Act.{Act}
use Rattle.hub_acts.specs.declared.act.Act.TheVariants as act
use Rattle.hub_acts.specs.declared.answers.Waited.TheVariants as waited
use Rattle.machine.specs.Connections.{serials}
use Rattle.machine.specs.States.{State}
use Rattle.machine.specs.Readings.{is_over}
use Rattle.attentive_acts.specs.Flags.{Flags}
use Rattle.attentive_acts.specs.Places.{Place, Waits, Asks, Accepts, Reads, Writes, Closes, Leaves, place_after}
use Rattle.attentive_acts.specs.Judging.{Judge, AllowsAt, Follows, judge_after, judged, leaving}
use Rattle.attentive_acts.proofs.ActByAct.{judged-more}
use Rattle.attentive_acts.proofs.SingleActs.{follows-at}
use Rattle.engine_loop.specs.declared.serve_end.ServeEnd.{ServeEnd}
use Rattle.engine_loop.specs.declared.serve_end.ServeEnd.TheVariants as ends
use Rattle.engine_loop.specs.Ends.{EndsBy}
use Rattle.single_output.specs.OneOutput.{EndsWell}

-- all that are open are to leave
abbrev pub LeavesAll : Judge → Type 0
LeavesAll j = j.place ≡ Leaves (serials j.state.connections)

waited_place : (place : Place) (j : Judge) (ms : ℕ) (fs : Flags) (s : State) → AllowsAt place j (act.Wait ms waited.Over []) → place_after place (act.Wait ms waited.Over []) fs s ≡ Leaves (serials s.connections)
waited_place Waits j ms fs s h = refl
waited_place Asks j ms fs s h = absurd h
waited_place (Accepts left) j ms fs s h = absurd h
waited_place (Reads []) j ms fs s h = absurd h
waited_place (Reads (c ∷ rest)) j ms fs s h = absurd h
waited_place (Writes []) j ms fs s h = absurd h
waited_place (Writes (c ∷ rest)) j ms fs s h = absurd h
waited_place Closes j ms fs s h = absurd h
waited_place (Leaves []) j ms fs s h = absurd h
waited_place (Leaves (c ∷ rest)) j ms fs s h = absurd h

leaves_after_wait : (j : Judge) (before : List Act) (ms : ℕ) → Follows j (before ++ act.Wait ms waited.Over [] ∷ []) → LeavesAll (judged j (before ++ act.Wait ms waited.Over [] ∷ []))
leaves_after_wait j before ms h =
    let a : Act = act.Wait ms waited.Over [] in
    let k : Judge = judged j before in
    subst LeavesAll (sym (judged-more j before a))
    (waited_place k.place k ms (judge_after k a).flags (judge_after k a).state (follows-at j before [] a h))

none_open : (s : State) → is_over s ≡ true → serials s.connections ≡ []
none_open s h =
    let none : length s.connections ≡ 0 = grind (arith, nat_tests, (and_parts s.has_quit (length s.connections == 0) h).1) in
    ap serials (nil_from_length s.connections none)

pub leaves-all : (end : ServeEnd) (turns : ℕ) (first : Judge) (run : List Act) (j : Judge) → EndsWell end → Follows first run → judged first run ≡ j → EndsBy end turns run j → LeavesAll j
leaves-all ends.Quit turns first run j w f is h = h.1 ∙ ap Leaves (sym (none_open j.state h.0))
leaves-all ends.Over turns first run j w f is h =
    subst LeavesAll is
    (subst (λ (xs : List Act). LeavesAll (judged first xs)) (sym h.2)
    (leaves_after_wait first h.0 h.1 (subst (Follows first) h.2 f)))
leaves-all end turns first run j w f is h = absurd w

pub leaving-is : (j : Judge) → LeavesAll j → leaving j ≡ j
leaving-is j e = ap (λ (place : Place). record j { place = place }) (sym e)

pub follows-both : (j : Judge) (run leaves : List Act) → Follows j run → Follows (judged j run) leaves → Follows j (run ++ leaves)
follows-both j [] leaves f g = g
follows-both j (a ∷ run) leaves f g = (f.0, follows-both (judge_after j a) run leaves f.1 g)

pub judged-both : (j : Judge) (run leaves : List Act) → judged j (run ++ leaves) ≡ judged (judged j run) leaves
judged-both j [] leaves = refl
judged-both j (a ∷ run) leaves = judged-both (judge_after j a) run leaves
