-- A link in memory stays sound as acts are added.
use Rattle.std.proofs.Common.{◌≡◌, ◌∙◌, ap, sym, refl, subst, Bool, true, false, not, List, [], ◌∷◌, ◌++◌, drop}
use Rattle.std.specs.Prelude.{ℕ, ◌&&◌}
use Rattle.std.specs.List.{fold}
use Rattle.std.proofs.lemmas.List.{take-append-drop, drop-drop}
use Rattle.std.proofs.lemmas.List.Sums.{fold-append}
use Rattle.script_screen.specs.declared.trace.TraceLine.{TraceLine}
use Rattle.hub_acts.specs.declared.act.Act.{Act}
use Rattle.hub_acts.specs.declared.act.Act.TheVariants as act
use Rattle.hub_acts.specs.declared.answers.LinkWaited.{LinkWaited}
use Rattle.hub_acts.specs.declared.answers.LinkWaited.TheVariants as waited
use Rattle.hub_acts.specs.declared.answers.ReadAnswer.TheVariants as read
use Rattle.hub_acts.specs.declared.answers.WriteAnswer.TheVariants as written
use Rattle.hub_mem.specs.Stories.{Made, Story, story_of, story_after, story_with, brings_turn, lines_brought, came_all, clock_after, next_turn, turn_length}
use Rattle.hub_mem.specs.Streams.{Stream, is_for_link, moved, with_read, with_taken}
use Rattle.hub_mem.specs.Feeds.{coming_in}
use Rattle.hub_mem.proofs.AddedActs.{story-more}
use Rattle.link_mem.specs.LinkStreams.{LinkStream, first_stream, link_after, link_in, closes}
use Rattle.link_mem.specs.LinkStanding.{LinkStage, LinkStandsFor, LinkIsSound, LinkIsQuiet, IsComing, IsReady, acted, heard_if, link_advanced, with_stream}
use Rattle.link_mem.proofs.LinkStories.{acted-coming, turn-stream, turn-coming, turn-open}

-- ---- an act that brings no turn

quiet_story : (s : Story) (a : Act) → brings_turn a ≡ false
    → story_after s a ≡ record { scenes = s.scenes ++ Made a ∷ []; ahead = s.ahead }
quiet_story s a e = ap (λ (b : Bool). story_with (lines_brought b s.ahead) s a) e

acted_in : (s : Story) (a : Act) → link_in (s.scenes ++ Made a ∷ []) ≡ link_after (link_in s.scenes) (Made a)
acted_in s a = fold-append link_after first_stream s.scenes (Made a ∷ [])

acted_stands : (g : LinkStage) (s : Story) (a : Act) → LinkStandsFor g s
    → LinkStandsFor (acted a g) (record { scenes = s.scenes ++ Made a ∷ []; ahead = s.ahead })
acted_stands g s a h = record {
  ahead = h.ahead;
  clock = h.clock ∙ sym (fold-append clock_after 0 s.scenes (Made a ∷ []));
  is_open =
      ap (λ (b : Bool). b && not (closes a)) h.is_open
      ∙ sym (ap (λ (k : LinkStream). k.is_open) (acted_in s a));
  stream = ap (moved a) h.stream ∙ sym (ap (λ (k : LinkStream). k.stream) (acted_in s a));
  coming =
      acted-coming g.is_open (closes a) g.feed.coming (coming_in is_for_link s.ahead) h.coming;
}

pub sound-act : (g next : LinkStage) (acts : List Act) (a : Act) → brings_turn a ≡ false
    → next ≡ acted a g → LinkIsSound g acts → LinkIsSound next (acts ++ a ∷ [])
sound-act g next acts a without is h =
    subst (λ (k : LinkStage). LinkIsSound k (acts ++ a ∷ [])) (sym is)
    (subst (λ (t : Story). LinkStandsFor (acted a g) t)
    (sym (story-more g.lines acts a ∙ quiet_story (story_of g.lines acts) a without))
    (acted_stands g (story_of g.lines acts) a h))

-- ---- one that closes nothing

still_open : (b : Bool) → b ≡ b && true
still_open true = refl
still_open false = refl

stays_acted : (g : LinkStage) (a : Act) → closes a ≡ false → with_stream (moved a) g ≡ acted a g
stays_acted g a stays =
    ap (λ (b : Bool). record g { feed = record g.feed { stream = moved a g.feed.stream }; is_open = b })
    (still_open g.is_open ∙ ap (λ (b : Bool). g.is_open && not b) (sym stays))

moved-acted : (g next : LinkStage) (a : Act) → closes a ≡ false
    → next ≡ with_stream (moved a) g → next ≡ acted a g
moved-acted g next a stays is = is ∙ stays_acted g a stays

-- what it moves is the stream
pub sound-read : (g next : LinkStage) (acts : List Act) (room n : ℕ) (bytes : List ℕ) → LinkIsSound g acts
    → next ≡ with_stream (with_read n) g → LinkIsSound next (acts ++ act.LinkRead room (read.Got n) bytes ∷ [])
sound-read g next acts room n bytes h is =
    let a : Act = act.LinkRead room (read.Got n) bytes in
    sound-act g next acts a refl (moved-acted g next a refl is) h

pub sound-write : (g next : LinkStage) (acts : List Act) (n : ℕ) (bytes : List ℕ) → LinkIsSound g acts
    → next ≡ with_stream (with_taken n) g → LinkIsSound next (acts ++ act.LinkWrite bytes (written.Took n) ∷ [])
sound-write g next acts n bytes h is =
    let a : Act = act.LinkWrite bytes (written.Took n) in
    sound-act g next acts a refl (moved-acted g next a refl is) h

-- ---- one that changes nothing

quiet_acted : (g : LinkStage) (a : Act) → LinkIsQuiet a → g ≡ acted a g
quiet_acted g a q =
    ap (λ (s : Stream). record g { feed = record g.feed { stream = s } })
    (sym (q.moves g.feed.stream))
    ∙ stays_acted g a q.stays

pub sound-quiet : (g : LinkStage) (acts : List Act) (a : Act) → LinkIsSound g acts → LinkIsQuiet a
    → LinkIsSound g (acts ++ a ∷ [])
sound-quiet g acts a h q = sound-act g g acts a q.brings (quiet_acted g a q) h

-- ---- the last one

closed : (b : Bool) → false ≡ b && false
closed true = refl
closed false = refl

pub closed-acted : (g next : LinkStage) → next ≡ record g { is_open = false } → next ≡ acted act.LinkClose g
closed-acted g next is = is ∙ ap (λ (b : Bool). record g { is_open = b }) (closed g.is_open)

-- ---- a wait that brings a turn

turn_stands : (g : LinkStage) (s : Story) (ms : ℕ) (answer : LinkWaited) (turn rest : List TraceLine)
    → LinkStandsFor g s → s.ahead ≡ turn ++ rest → next_turn (drop g.at g.lines) ≡ turn
    → drop (link_advanced g).at g.lines ≡ rest
    → LinkStandsFor (link_advanced g)
    (record { scenes = s.scenes ++ Made (act.LinkWait ms answer) ∷ came_all turn; ahead = rest })
turn_stands g s ms answer turn rest h split is left = record {
  ahead = left;
  clock =
      ap (λ (xs : List TraceLine). fold clock_after g.clock (came_all xs)) is
      ∙ ap (λ (n : ℕ). fold clock_after n (came_all turn)) h.clock
      ∙ sym (fold-append clock_after 0 s.scenes (Made (act.LinkWait ms answer) ∷ came_all turn));
  is_open =
      h.is_open ∙ turn-open (link_in s.scenes).is_open (link_in s.scenes).stream turn
      ∙ sym (ap (λ (k : LinkStream). k.is_open) whole);
  stream =
      ap (λ (xs : List TraceLine). (heard_if g.is_open xs g.feed).stream) is
      ∙ turn-stream g.is_open g.feed (link_in s.scenes).stream turn rest h.stream comes
      ∙ ap (λ (b : Bool). (fold link_after (record { stream = (link_in s.scenes).stream; is_open = b && true }) (came_all turn)).stream) h.is_open
      ∙ sym (ap (λ (k : LinkStream). k.stream) whole);
  coming =
      subst (λ (xs : List TraceLine). IsComing g.is_open (heard_if g.is_open xs g.feed).coming (coming_in is_for_link rest))
      (sym is)
      (turn-coming g.is_open g.feed (link_in s.scenes).stream turn rest h.stream comes);
}
  where
    comes : IsComing g.is_open g.feed.coming (coming_in is_for_link (turn ++ rest))
    comes =
        subst (λ (xs : List TraceLine). IsComing g.is_open g.feed.coming (coming_in is_for_link xs))
        split h.coming

    whole : link_in (s.scenes ++ Made (act.LinkWait ms answer) ∷ came_all turn)
        ≡ fold link_after (record { stream = (link_in s.scenes).stream; is_open = (link_in s.scenes).is_open && true }) (came_all turn)
    whole = fold-append link_after first_stream s.scenes (Made (act.LinkWait ms answer) ∷ came_all turn)

turn_story : (s : Story) (ms : ℕ) (answer : LinkWaited) → IsReady answer
    → story_after s (act.LinkWait ms answer)
    ≡ record {
      scenes = s.scenes ++ Made (act.LinkWait ms answer) ∷ came_all (next_turn s.ahead);
      ahead = drop (turn_length s.ahead) s.ahead;
    }
turn_story s ms (waited.Ready readable writable) r = refl
turn_story s ms waited.Over r = absurd r
turn_story s ms waited.Failed r = absurd r
turn_story s ms waited.OutOfMemory r = absurd r

advanced_stands : (g : LinkStage) (s : Story) (ms : ℕ) (answer : LinkWaited) → IsReady answer
    → LinkStandsFor g s → LinkStandsFor (link_advanced g) (story_after s (act.LinkWait ms answer))
advanced_stands g s ms answer r h =
    subst (λ (t : Story). LinkStandsFor (link_advanced g) t) (sym (turn_story s ms answer r))
    (turn_stands g s ms answer (next_turn s.ahead) (drop (turn_length s.ahead) s.ahead) h
    (sym (take-append-drop (turn_length s.ahead) s.ahead))
    (ap next_turn h.ahead)
    (sym (drop-drop (turn_length (drop g.at g.lines)) g.at g.lines)
    ∙ ap (λ (xs : List TraceLine). drop (turn_length xs) xs) h.ahead))

pub sound-turn : (g next : LinkStage) (acts : List Act) (ms : ℕ) (answer : LinkWaited) → IsReady answer
    → LinkIsSound g acts → next ≡ link_advanced g → LinkIsSound next (acts ++ act.LinkWait ms answer ∷ [])
sound-turn g next acts ms answer r h is =
    subst (λ (k : LinkStage). LinkIsSound k (acts ++ act.LinkWait ms answer ∷ [])) (sym is)
    (subst (λ (t : Story). LinkStandsFor (link_advanced g) t)
    (sym (story-more g.lines acts (act.LinkWait ms answer)))
    (advanced_stands g (story_of g.lines acts) ms answer r h))
