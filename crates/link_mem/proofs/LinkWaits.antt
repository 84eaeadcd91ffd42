-- What a wait answers, by what is ahead.
use Rattle.std.proofs.Common.{◌≡◌, ◌∙◌, ap, sym, refl, ◌<◌, Bool, true, false, cond, List, [], ◌∷◌, length, arith}
use Rattle.script_screen.specs.declared.trace.TraceLine.{TraceLine}
use Rattle.hub_acts.specs.declared.answers.LinkWaited.TheVariants as waited
use Rattle.hub_mem.specs.Stories.{next_turn}
use Rattle.hub_mem.specs.Answers.{Played, story, is_to_fail}
use Rattle.link_mem.specs.LinkAnswers.{link_of, link_wait_given, ready_by, turn_given}

some_turn : (b : Bool) (ahead : List TraceLine) → 0 < length ahead → ready_by b (next_turn ahead) ≡ turn_given b ahead
some_turn b [] more = absurd (omega arith)
some_turn b (l ∷ ls) more = refl

no_turn : (b : Bool) (ahead : List TraceLine) → length ahead ≡ 0 → waited.Over ≡ turn_given b ahead
no_turn b [] e = refl
no_turn b (l ∷ ls) e = absurd (omega arith)

goes_on : (p : Played) → is_to_fail p ≡ false → turn_given (link_of p).is_open (story p).ahead ≡ link_wait_given p
goes_on p going = ap (λ (b : Bool). cond b waited.Failed (turn_given (link_of p).is_open (story p).ahead)) (sym going)

-- the next turn comes
pub turn-wait : (p : Played) → is_to_fail p ≡ false → 0 < length (story p).ahead
    → ready_by (link_of p).is_open (next_turn (story p).ahead) ≡ link_wait_given p
turn-wait p going more = some_turn (link_of p).is_open (story p).ahead more ∙ goes_on p going

-- no turn is left
pub over-wait : (p : Played) → is_to_fail p ≡ false → length (story p).ahead ≡ 0 → waited.Over ≡ link_wait_given p
over-wait p going none = no_turn (link_of p).is_open (story p).ahead none ∙ goes_on p going

-- the call is to fail
pub failed-wait : (p : Played) → is_to_fail p ≡ true → waited.Failed ≡ link_wait_given p
failed-wait p fails = ap (λ (b : Bool). cond b waited.Failed (turn_given (link_of p).is_open (story p).ahead)) (sym fails)
