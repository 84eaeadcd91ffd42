-- An act of an attentive list is the one that was due.
use Rattle.std.proofs.Common.{◌≡◌, sym, subst, ℕ, true, List, [], ◌∷◌, ◌++◌}
use Rattle.std.proofs.lemmas.Bool.{and_parts}
use Rattle.hub_acts.specs.declared.act.Act.{Act}
use Rattle.hub_acts.specs.declared.act.Act.TheVariants as act
use Rattle.hub_acts.specs.declared.answers.ReadAnswer.{ReadAnswer}
use Rattle.hub_acts.specs.declared.answers.WriteAnswer.{WriteAnswer}
use Rattle.machine.specs.Readings.{reads}
use Rattle.attentive_acts.specs.Flags.{has_flag, has_more}
use Rattle.attentive_acts.specs.Places.{Place, Waits, Asks, Accepts, Reads, Writes, Closes, Leaves}
use Rattle.attentive_acts.specs.Judging.{Judge, Allows, AllowsAt, Follows, judge_after, judged}

pub follows-at : (j : Judge) (before after : List Act) (a : Act) → Follows j (before ++ a ∷ after) → Allows (judged j before) a
follows-at j [] after a h = h.0
follows-at j (b ∷ before) after a h = follows-at (judge_after j b) before after a h.1

-- a front of attentive acts is attentive
pub follows-front : (j : Judge) (before after : List Act) → Follows j (before ++ after) → Follows j before
follows-front j [] after h = tt
follows-front j (b ∷ before) after h = (h.0, follows-front (judge_after j b) before after h.1)

pub read-lives : (place : Place) (j : Judge) (serial room : ℕ) (answer : ReadAnswer) (bytes : List ℕ) → AllowsAt place j (act.Read serial room answer bytes) → reads j.state serial ≡ true
read-lives Waits j serial room answer bytes h = absurd h
read-lives Asks j serial room answer bytes h = absurd h
read-lives (Accepts left) j serial room answer bytes h = absurd h
read-lives (Reads []) j serial room answer bytes h = absurd h
read-lives (Reads (c ∷ rest)) j serial room answer bytes h =
    subst (λ n. reads j.state n ≡ true) (sym h.0) (and_parts (has_flag (λ f. f.reads) c j.flags) (reads j.state c) h.4).1
read-lives (Writes []) j serial room answer bytes h = absurd h
read-lives (Writes (c ∷ rest)) j serial room answer bytes h = absurd h
read-lives Closes j serial room answer bytes h = absurd h
read-lives (Leaves []) j serial room answer bytes h = absurd h
read-lives (Leaves (c ∷ rest)) j serial room answer bytes h = absurd h

pub write-queued : (place : Place) (j : Judge) (serial : ℕ) (bytes : List ℕ) (answer : WriteAnswer) → AllowsAt place j (act.Write serial bytes answer) → has_more j.state serial ≡ true
write-queued Waits j serial bytes answer h = absurd h
write-queued Asks j serial bytes answer h = absurd h
write-queued (Accepts left) j serial bytes answer h = absurd h
write-queued (Reads []) j serial bytes answer h = absurd h
write-queued (Reads (c ∷ rest)) j serial bytes answer h = absurd h
write-queued (Writes []) j serial bytes answer h = absurd h
write-queued (Writes (c ∷ rest)) j serial bytes answer h =
    subst (λ n. has_more j.state n ≡ true) (sym h.0) (and_parts (has_flag (λ f. f.writes) c j.flags) (has_more j.state c) h.3).1
write-queued Closes j serial bytes answer h = absurd h
write-queued (Leaves []) j serial bytes answer h = absurd h
write-queued (Leaves (c ∷ rest)) j serial bytes answer h = absurd h
