-- Streams as a story goes on: by the lines of a turn, or by an act.
use Rattle.std.proofs.Common.{◌≡◌, ◌∙◌, ap, sym, refl, subst, ℕ, ◌+◌, ◌≤◌, Bool, true, false, cond, List, [], ◌∷◌, ◌++◌, length, take, drop, arith}
use Rattle.std.specs.Prelude.{Option, None, Some, slice_get, filter}
use Rattle.std.specs.List.{fold}
use Rattle.std.specs.Option.{option_map}
use Rattle.std.proofs.lemmas.List.{take-append-drop, drop-drop, length-append}
use Rattle.std.proofs.lemmas.List.Elements.{filter-append}
use Rattle.std.proofs.lemmas.List.Sums.{fold-append}
use Rattle.script_screen.specs.declared.trace.TraceLine.{TraceLine}
use Rattle.script_screen.specs.declared.trace.TraceLine.TheVariants as line
use Rattle.script_screen.specs.Traces.{is_join}
use Rattle.share_base.specs.Counts.{one_more}
use Rattle.hub_acts.specs.declared.act.Act.{Act}
use Rattle.hub_mem.specs.Stories.{Made, Story, story_with, story_after, brings_turn, lines_brought, turn_length, next_turn, came_all, clock_after, joined_after}
use Rattle.hub_mem.specs.Streams.{Stream, Role, new_stream, heard, moved, stream_after, stream_in, connection_of, acts_on, names}
use Rattle.hub_mem.specs.Feeds.{Feed, bytes_of, coming_in, feed_in, feed_heard, feed_moved}
use Rattle.hub_mem.specs.Standing.{Stage, Hears, Advances, StandsFor, feed_after_all}

-- ---- lines

take-front : (xs ys : List ℕ) → take (length xs) (xs ++ ys) ≡ xs
take-front [] ys = refl
take-front (x ∷ xs) ys = ap (λ (t : List ℕ). x ∷ t) (take-front xs ys)

drop-front : (xs ys : List ℕ) → drop (length xs) (xs ++ ys) ≡ ys
drop-front [] ys = refl
drop-front (x ∷ xs) ys = drop-front xs ys

-- the bytes of a line come
one_heard : (l : TraceLine) (s : Stream) (later : List ℕ) → feed_heard l (record { stream = s; coming = bytes_of l ++ later }) ≡ record { stream = heard l s; coming = later }
one_heard (line.Turn t) s later = refl
one_heard (line.Join c) s later = refl
one_heard (line.Got c bytes) s later =
    ap (λ (xs : List ℕ). record { stream = record s { unread = s.unread ++ xs }; coming = drop (length bytes) (bytes ++ later) }) (take-front bytes later)
    ∙ ap (λ (xs : List ℕ). record { stream = record s { unread = s.unread ++ bytes }; coming = xs }) (drop-front bytes later)
one_heard (line.End c) s later = refl
one_heard (line.Fail c) s later = refl
one_heard (line.Room c room) s later = refl

one_seen : (b : Bool) (l : TraceLine) (s : Stream) (later : List ℕ)
    → cond b (feed_heard l (record { stream = s; coming = cond b (bytes_of l) [] ++ later })) (record { stream = s; coming = cond b (bytes_of l) [] ++ later }) ≡ record { stream = cond b (heard l s) s; coming = later }
one_seen true l s later = one_heard l s later
one_seen false l s later = refl

pub all_seen : (role : Role) (turn rest : List TraceLine) (s : Stream)
    → feed_after_all role.has_line turn (record { stream = s; coming = coming_in role.has_line (turn ++ rest) }) ≡ record { stream = fold (stream_after role) s (came_all turn); coming = coming_in role.has_line rest }
all_seen role [] rest s = refl
all_seen role (l ∷ turn) rest s =
    ap (λ (f : Feed). feed_after_all role.has_line turn f) (one_seen (role.has_line l) l s (coming_in role.has_line (turn ++ rest)))
    ∙ all_seen role turn rest (cond (role.has_line l) (heard l s) s)

-- ---- who joined

joined_most : (ls : List TraceLine) (j : ℕ) → fold joined_after j (came_all ls) ≤ j + length (filter is_join ls)
joined_most [] j = omega arith
joined_most (line.Turn t ∷ ls) j = joined_most ls j
joined_most (line.Join c ∷ ls) j = let rest = joined_most ls (one_more j) in omega arith
joined_most (line.Got c bytes ∷ ls) j = joined_most ls j
joined_most (line.End c ∷ ls) j = joined_most ls j
joined_most (line.Fail c ∷ ls) j = joined_most ls j
joined_most (line.Room c room ∷ ls) j = joined_most ls j

-- ---- acts

moved_feed : (b : Bool) (a : Act) (f : Feed) (s : Stream) (later : List ℕ) → f ≡ record { stream = s; coming = later } → cond b (record f { stream = moved a f.stream }) f ≡ record { stream = cond b (moved a s) s; coming = later }
moved_feed true a f s later e = ap (λ (g : Feed). record g { stream = moved a g.stream }) e
moved_feed false a f s later e = e

none_some : {A : Type 0} {P : Type 0} (x : A) → None ≡ Some x → P
none_some x e = absurd (let x : ⊥ = cc in x)

some_is : {A : Type 0} (x y : A) → Some x ≡ Some y → x ≡ y
some_is x y e = cc

-- the story goes on by an act that brings no line
quiet_story : (s : Story) (a : Act) → brings_turn a ≡ false → story_after s a ≡ record { scenes = s.scenes ++ Made a ∷ []; ahead = s.ahead }
quiet_story s a e = ap (λ (b : Bool). story_with (lines_brought b s.ahead) s a) e

-- by one that brings a turn
turn_story : (s : Story) (a : Act) → brings_turn a ≡ true → story_after s a ≡ record { scenes = s.scenes ++ Made a ∷ came_all (next_turn s.ahead); ahead = drop (turn_length s.ahead) s.ahead }
turn_story s a e = ap (λ (b : Bool). story_with (lines_brought b s.ahead) s a) e

-- ---- what stands goes on standing

quiet_stands : (g next : Stage) (s : Story) (a : Act) → StandsFor g s → next.lines ≡ g.lines → next.at ≡ g.at → next.table.joined ≡ g.table.joined → next.table.clock ≡ g.table.clock → length next.table.feeds ≡ length g.table.feeds
    → ((c : ℕ) → slice_get next.table.feeds c ≡ option_map (feed_moved (acts_on c) a) (slice_get g.table.feeds c))
    → StandsFor next (record { scenes = s.scenes ++ Made a ∷ []; ahead = s.ahead })
quiet_stands g next s a h same at joined clock size feeds = record {
  ahead = ap (λ (n : ℕ). drop n next.lines) at ∙ ap (drop g.at) same ∙ h.ahead;
  joined = joined ∙ h.joined ∙ sym (fold-append joined_after 0 s.scenes (Made a ∷ []));
  clock = clock ∙ h.clock ∙ sym (fold-append clock_after 0 s.scenes (Made a ∷ []));
  feeds = λ c f e. each c f (slice_get g.table.feeds c) refl (sym (feeds c) ∙ e);
  room = let r = h.room in omega arith;
}
  where
    each : (c : ℕ) (f : Feed) (o : Option Feed) → slice_get g.table.feeds c ≡ o → option_map (feed_moved (acts_on c) a) o ≡ Some f → f ≡ feed_in (connection_of c) (record { scenes = s.scenes ++ Made a ∷ []; ahead = s.ahead })
    each c f None e m = none_some f m
    each c f (Some k) e m =
        sym (some_is (feed_moved (acts_on c) a k) f m) ∙ moved_feed (acts_on c a) a k (stream_in (connection_of c) s.scenes) (coming_in (names c) s.ahead) (h.feeds c k e)
        ∙ ap (λ (x : Stream). record { stream = x; coming = coming_in (names c) s.ahead }) (sym (fold-append (stream_after (connection_of c)) new_stream s.scenes (Made a ∷ [])))

pub moved-stands : (g next : Stage) (s : Story) (a : Act) → brings_turn a ≡ false → StandsFor g s → next.lines ≡ g.lines → next.at ≡ g.at → next.table.joined ≡ g.table.joined → next.table.clock ≡ g.table.clock
    → length next.table.feeds ≡ length g.table.feeds → ((c : ℕ) → slice_get next.table.feeds c ≡ option_map (feed_moved (acts_on c) a) (slice_get g.table.feeds c)) → StandsFor next (story_after s a)
moved-stands g next s a without h same at joined clock size feeds = subst (λ (t : Story). StandsFor next t) (sym (quiet_story s a without)) (quiet_stands g next s a h same at joined clock size feeds)

turn_stands : (g next : Stage) (s : Story) (a : Act) (turn rest : List TraceLine) → ((c : ℕ) → acts_on c a ≡ false) → StandsFor g s → s.ahead ≡ turn ++ rest → Hears turn g.table next.table → drop next.at next.lines ≡ rest
    → StandsFor next (record { scenes = s.scenes ++ Made a ∷ came_all turn; ahead = rest })
turn_stands g next s a turn rest off h split heard ahead = record {
  ahead = ahead;
  joined = heard.joined ∙ ap (λ (n : ℕ). fold joined_after n (came_all turn)) (h.joined) ∙ sym (fold-append joined_after 0 s.scenes (Made a ∷ came_all turn));
  clock = heard.clock ∙ ap (λ (n : ℕ). fold clock_after n (came_all turn)) (h.clock) ∙ sym (fold-append clock_after 0 s.scenes (Made a ∷ came_all turn));
  feeds = λ c f e. each c f (slice_get g.table.feeds c) refl (sym (heard.feeds c) ∙ e);
  room =
      let r = h.room in
      let most = joined_most turn g.table.joined in
      let joins = joins-split split in
      let is = heard.joined in
      let size = heard.size in
      omega arith;
}
  where
    joins-split : s.ahead ≡ turn ++ rest → length (filter is_join s.ahead) ≡ length (filter is_join turn) + length (filter is_join rest)
    joins-split e =
        ap (λ (xs : List TraceLine). length (filter is_join xs)) e ∙ ap (λ (xs : List TraceLine). length xs) (filter-append is_join turn rest)
        ∙ length-append (filter is_join turn) (filter is_join rest)

    each : (c : ℕ) (f : Feed) (o : Option Feed) → slice_get g.table.feeds c ≡ o → option_map (feed_after_all (names c) turn) o ≡ Some f
        → f ≡ feed_in (connection_of c) (record { scenes = s.scenes ++ Made a ∷ came_all turn; ahead = rest })
    each c f None e m = none_some f m
    each c f (Some k) e m =
        sym (some_is (feed_after_all (names c) turn k) f m) ∙ ap (feed_after_all (names c) turn) (h.feeds c k e)
        ∙ ap (λ (xs : List TraceLine). feed_after_all (names c) turn (record { stream = stream_in (connection_of c) s.scenes; coming = coming_in (names c) xs })) split
        ∙ all_seen (connection_of c) turn rest (stream_in (connection_of c) s.scenes)
        ∙ ap (λ (x : Stream). record { stream = x; coming = coming_in (names c) rest })
        (ap (λ (b : Bool). fold (stream_after (connection_of c)) (cond b (moved a (stream_in (connection_of c) s.scenes)) (stream_in (connection_of c) s.scenes)) (came_all turn)) (sym (off c))
        ∙ sym (fold-append (stream_after (connection_of c)) new_stream s.scenes (Made a ∷ came_all turn)))

pub advanced-stands : (g next : Stage) (s : Story) (a : Act) → brings_turn a ≡ true → ((c : ℕ) → acts_on c a ≡ false) → StandsFor g s → Advances g next → StandsFor next (story_after s a)
advanced-stands g next s a brings off h adv =
    subst (λ (t : Story). StandsFor next t) (sym (turn_story s a brings))
    (turn_stands g next s a (next_turn s.ahead) (drop (turn_length s.ahead) s.ahead) off h (sym (take-append-drop (turn_length s.ahead) s.ahead)) (subst (λ (xs : List TraceLine). Hears (next_turn xs) g.table next.table) h.ahead adv.hears)
    (ap (λ (n : ℕ). drop n next.lines) adv.at ∙ ap (drop (g.at + turn_length (drop g.at g.lines))) adv.lines ∙ sym (drop-drop (turn_length (drop g.at g.lines)) g.at g.lines) ∙ ap (λ (xs : List TraceLine). drop (turn_length xs) xs) h.ahead))
