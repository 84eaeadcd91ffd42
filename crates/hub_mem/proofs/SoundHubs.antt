-- A hub in memory stays sound as acts are added.
use Rattle.std.proofs.Common.{◌≡◌, ap, sym, refl, subst, ℕ, ◌-◌, ◌^◌, ◌<◌, ◌≤◌, Bool, true, false, cond, List, [], ◌∷◌, ◌++◌, length, drop, arith}
use Rattle.std.specs.Prelude.{Option, None, Some, slice_get}
use Rattle.std.specs.List.{fold}
use Rattle.std.specs.Option.{option_map}
use Rattle.script_screen.specs.declared.trace.TraceLine.{TraceLine}
use Rattle.script_screen.specs.declared.trace.TraceLine.TheVariants as line
use Rattle.share_base.specs.Counts.{one_more}
use Rattle.hub_acts.specs.declared.act.Act.{Act}
use Rattle.hub_acts.specs.declared.act.Act.TheVariants as act
use Rattle.hub_acts.specs.declared.answers.Waited.TheVariants as waited
use Rattle.hub_acts.specs.declared.answers.ReadAnswer.TheVariants as read
use Rattle.hub_acts.specs.declared.answers.WriteAnswer.TheVariants as written
use Rattle.hub_acts.specs.declared.marks.Mark.{Mark}
use Rattle.hub_acts.specs.Counting.{latest_with}
use Rattle.hub_mem.specs.Tallies.{tally_of}
use Rattle.hub_mem.specs.Stories.{Scene, Came, Made, Story, story_of, came_all, joined_after, joined_in, next_turn}
use Rattle.hub_mem.specs.Streams.{Stream, moved, acts_on, with_read, with_taken}
use Rattle.hub_mem.specs.Feeds.{Feed}
use Rattle.hub_mem.specs.Standing.{Stage, Advances, Changes, IsSound, StandsFor, AreAccepted, IsQuiet}
use Rattle.hub_mem.proofs.AddedActs.{story-more}
use Rattle.hub_mem.proofs.OpenSerials.{accepted-more, accepted-later}
use Rattle.hub_mem.proofs.StoryStreams.{moved-stands, advanced-stands}

-- ---- an act that moves no stream

quiet_feed : (b : Bool) (a : Act) → ((s : Stream) → moved a s ≡ s) → (o : Option Feed) → o ≡ option_map (λ (f : Feed). cond b (record f { stream = moved a f.stream }) f) o
quiet_feed b a quiet None = refl
quiet_feed true a quiet (Some f) = ap (λ (s : Stream). Some (record f { stream = s })) (sym (quiet f.stream))
quiet_feed false a quiet (Some f) = refl

pub sound-quiet : (g : Stage) (acts : List Act) (a : Act) → IsSound g acts → IsQuiet a (joined_in (story_of g.lines acts).scenes) (tally_of acts).latest → IsSound g (acts ++ a ∷ [])
sound-quiet g acts a h q = record {
  stands = subst (λ (t : Story). StandsFor g t) (sym (story-more g.lines acts a)) (moved-stands g g (story_of g.lines acts) a q.brings h.stands refl refl refl refl refl (λ c. quiet_feed (acts_on c a) a q.moves (slice_get g.table.feeds c)));
  joined = accepted-more g.table.joined acts a q.grows (subst (λ (n : ℕ). latest_with a (tally_of acts).latest ≤ n) (sym h.stands.joined) (q.within (subst (λ (n : ℕ). (tally_of acts).latest ≤ n) h.stands.joined h.joined.accepted))) h.joined;
}

-- ---- a wait that brings a turn

abbrev most : ℕ
most = 2 ^ 64 - 1

joined_within : (scenes : List Scene) (j : ℕ) → j ≤ most → fold joined_after j scenes ≤ most
joined_within [] j h = h
joined_within (Made a ∷ scenes) j h = joined_within scenes j h
joined_within (Came (line.Turn t) ∷ scenes) j h = joined_within scenes j h
joined_within (Came (line.Join c) ∷ scenes) j h = joined_within scenes (one_more j) (omega arith)
joined_within (Came (line.Got c bytes) ∷ scenes) j h = joined_within scenes j h
joined_within (Came (line.End c) ∷ scenes) j h = joined_within scenes j h
joined_within (Came (line.Fail c) ∷ scenes) j h = joined_within scenes j h
joined_within (Came (line.Room c room) ∷ scenes) j h = joined_within scenes j h

joined_least : (ls : List TraceLine) (j : ℕ) → j ≤ most → j ≤ fold joined_after j (came_all ls)
joined_least [] j h = omega arith
joined_least (line.Turn t ∷ ls) j h = joined_least ls j h
joined_least (line.Join c ∷ ls) j h = let rest = joined_least ls (one_more j) (omega arith) in omega arith
joined_least (line.Got c bytes ∷ ls) j h = joined_least ls j h
joined_least (line.End c ∷ ls) j h = joined_least ls j h
joined_least (line.Fail c ∷ ls) j h = joined_least ls j h
joined_least (line.Room c room ∷ ls) j h = joined_least ls j h

pub sound-turn : (g next : Stage) (acts : List Act) (ms : ℕ) (marks : List Mark) → IsSound g acts → Advances g next → IsSound next (acts ++ act.Wait ms waited.Ready marks ∷ [])
sound-turn g next acts ms marks h adv =
    let a : Act = act.Wait ms waited.Ready marks in
    let few : joined_in (story_of g.lines acts).scenes ≤ most = joined_within (story_of g.lines acts).scenes 0 (omega arith) in
    let was : g.table.joined ≤ most = subst (λ (n : ℕ). n ≤ most) (sym h.stands.joined) few in
    let grew : g.table.joined ≤ next.table.joined = subst (λ (n : ℕ). g.table.joined ≤ n) (sym adv.hears.joined) (joined_least (next_turn (drop g.at g.lines)) g.table.joined was) in
    record {
      stands = subst (λ (ls : List TraceLine). StandsFor next (story_of ls (acts ++ a ∷ []))) (sym adv.lines) (subst (λ (t : Story). StandsFor next t) (sym (story-more g.lines acts a)) (advanced-stands g next (story_of g.lines acts) a refl (λ c. refl) h.stands adv));
      joined = accepted-more next.table.joined acts a (omega arith) (let j = h.joined.accepted in omega arith) (accepted-later g.table.joined next.table.joined acts grew h.joined);
    }

-- ---- an act that moves one stream

pub sound-read : (g next : Stage) (acts : List Act) (serial room n : ℕ) (bytes : List ℕ) → IsSound g acts → Changes serial (with_read n) g.table next.table → next.lines ≡ g.lines → next.at ≡ g.at
    → IsSound next (acts ++ act.Read serial room (read.Got n) bytes ∷ [])
sound-read g next acts serial room n bytes h ch lines at =
    let a : Act = act.Read serial room (read.Got n) bytes in
    record {
      stands = subst (λ (ls : List TraceLine). StandsFor next (story_of ls (acts ++ a ∷ []))) (sym lines) (subst (λ (t : Story). StandsFor next t) (sym (story-more g.lines acts a)) (moved-stands g next (story_of g.lines acts) a refl h.stands lines at ch.joined ch.clock ch.size ch.feeds));
      joined = subst (λ (j : ℕ). AreAccepted j (acts ++ a ∷ [])) (sym ch.joined) (accepted-more g.table.joined acts a (omega arith) h.joined.accepted h.joined);
    }

pub sound-write : (g next : Stage) (acts : List Act) (serial n : ℕ) (bytes : List ℕ) → IsSound g acts → Changes serial (with_taken n) g.table next.table → next.lines ≡ g.lines → next.at ≡ g.at
    → IsSound next (acts ++ act.Write serial bytes (written.Took n) ∷ [])
sound-write g next acts serial n bytes h ch lines at =
    let a : Act = act.Write serial bytes (written.Took n) in
    record {
      stands = subst (λ (ls : List TraceLine). StandsFor next (story_of ls (acts ++ a ∷ []))) (sym lines) (subst (λ (t : Story). StandsFor next t) (sym (story-more g.lines acts a)) (moved-stands g next (story_of g.lines acts) a refl h.stands lines at ch.joined ch.clock ch.size ch.feeds));
      joined = subst (λ (j : ℕ). AreAccepted j (acts ++ a ∷ [])) (sym ch.joined) (accepted-more g.table.joined acts a (omega arith) h.joined.accepted h.joined);
    }

-- ---- what an open serial has

pub has-stream : (g : Stage) (acts : List Act) (serial : ℕ) → IsSound g acts → serial ≤ (tally_of acts).latest → serial < length g.table.feeds
has-stream g acts serial h le = let most = h.joined.accepted in let room = h.stands.room in omega arith
