-- What a wait answers, by what is ahead.
use Rattle.std.proofs.Common.{◌≡◌, ◌∙◌, ap, sym, subst, refl, ℕ, ◌<◌, Bool, true, false, cond, List, [], ◌∷◌, length, arith}
use Rattle.std.specs.Prelude.{Option}
use Rattle.script_screen.specs.declared.trace.TraceLine.{TraceLine}
use Rattle.hub_acts.specs.declared.act.Act.{Act}
use Rattle.hub_acts.specs.declared.act.Act.TheVariants as act
use Rattle.hub_acts.specs.declared.answers.Waited.TheVariants as waited
use Rattle.hub_acts.specs.declared.marks.Mark.{Mark}
use Rattle.hub_mem.specs.Stories.{next_turn}
use Rattle.hub_mem.specs.Answers.{Played, Plays, story, tally, is_to_fail, marks_of, turn_wait, trace_wait}

some_turn : (p : Played) (ms : ℕ) (ahead : List TraceLine) (marks : List Mark) → 0 < length ahead → marks ≡ marks_of (next_turn ahead) (tally p).serials → act.Wait ms waited.Ready marks ≡ turn_wait p ms ahead
some_turn p ms [] marks more e = absurd (omega arith)
some_turn p ms (l ∷ ls) marks more e = ap (λ (ms_marks : List Mark). act.Wait ms waited.Ready ms_marks) e

no_turn : (p : Played) (ms : ℕ) (ahead : List TraceLine) → length ahead ≡ 0 → act.Wait ms waited.Over [] ≡ turn_wait p ms ahead
no_turn p ms [] e = refl
no_turn p ms (l ∷ ls) e = absurd (omega arith)

goes_on : (p : Played) (ms : ℕ) → is_to_fail p ≡ false → turn_wait p ms (story p).ahead ≡ trace_wait p ms
goes_on p ms going = ap (λ (b : Bool). cond b (act.Wait ms waited.Failed []) (turn_wait p ms (story p).ahead)) (sym going)

-- the next turn comes
pub turn-waits : (p : Played) (ms : ℕ) (marks : List Mark) → is_to_fail p ≡ false → 0 < length (story p).ahead → marks ≡ marks_of (next_turn (story p).ahead) (tally p).serials → act.Wait ms waited.Ready marks ≡ trace_wait p ms
turn-waits p ms marks going more e = some_turn p ms (story p).ahead marks more e ∙ goes_on p ms going

-- no turn is left
pub over-waits : (p : Played) (ms : ℕ) → is_to_fail p ≡ false → length (story p).ahead ≡ 0 → act.Wait ms waited.Over [] ≡ trace_wait p ms
over-waits p ms going none = no_turn p ms (story p).ahead none ∙ goes_on p ms going

-- the call is to fail
pub failed-waits : (p : Played) (ms : ℕ) → is_to_fail p ≡ true → act.Wait ms waited.Failed [] ≡ trace_wait p ms
failed-waits p ms fails = ap (λ (b : Bool). cond b (act.Wait ms waited.Failed []) (turn_wait p ms (story p).ahead)) (sym fails)

pub plays-as : (one other : Act) (made : Option Act) (old new : Played) → one ≡ other → Plays one made old new → Plays other made old new
plays-as one other made old new e h = subst (λ (a : Act). Plays a made old new) e h
