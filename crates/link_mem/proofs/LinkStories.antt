-- A link's stream as its story goes on: by the lines of a turn, or by an act.
use Rattle.std.proofs.Common.{◌≡◌, ◌∙◌, ap, sym, refl, Bool, true, false, not, List, [], ◌∷◌, ◌++◌}
use Rattle.std.specs.Prelude.{ℕ, ◌&&◌}
use Rattle.std.specs.List.{fold}
use Rattle.script_screen.specs.declared.trace.TraceLine.{TraceLine}
use Rattle.hub_mem.specs.Stories.{Came, came_all}
use Rattle.hub_mem.specs.Streams.{Stream, is_for_link, link_stream, stream_after}
use Rattle.hub_mem.specs.Feeds.{Feed, coming_in}
use Rattle.hub_mem.specs.Standing.{feed_after_all}
use Rattle.hub_mem.proofs.StoryStreams.{all_seen}
use Rattle.link_mem.specs.LinkStreams.{LinkStream, link_after}
use Rattle.link_mem.specs.LinkStanding.{IsComing, heard_if}

-- ---- lines

open_heard : (turn : List TraceLine) (s : Stream)
    → fold link_after (record { stream = s; is_open = true }) (came_all turn)
    ≡ record { stream = fold (stream_after link_stream) s (came_all turn); is_open = true }
open_heard [] s = refl
open_heard (l ∷ ls) s = open_heard ls (stream_after link_stream s (Came l))

closed_heard : (turn : List TraceLine) (s : Stream)
    → fold link_after (record { stream = s; is_open = false }) (came_all turn)
    ≡ record { stream = s; is_open = false }
closed_heard [] s = refl
closed_heard (l ∷ ls) s = closed_heard ls s

-- lines neither close a link nor open it
pub turn-open : (b : Bool) (s : Stream) (turn : List TraceLine)
    → b ≡ (fold link_after (record { stream = s; is_open = b && true }) (came_all turn)).is_open
turn-open true s turn = sym (ap (λ (k : LinkStream). k.is_open) (open_heard turn s))
turn-open false s turn = sym (ap (λ (k : LinkStream). k.is_open) (closed_heard turn s))

-- the stream hears them while it is open
open_feed : (f : Feed) (s : Stream) (turn rest : List TraceLine) → f.stream ≡ s
    → f.coming ≡ coming_in is_for_link (turn ++ rest)
    → feed_after_all is_for_link turn f
    ≡ record { stream = fold (stream_after link_stream) s (came_all turn); coming = coming_in is_for_link rest }
open_feed f s turn rest e h =
    ap (λ (x : Stream). feed_after_all is_for_link turn (record { stream = x; coming = f.coming })) e
    ∙ ap (λ (xs : List ℕ). feed_after_all is_for_link turn (record { stream = s; coming = xs })) h
    ∙ all_seen link_stream turn rest s

pub turn-stream : (b : Bool) (f : Feed) (s : Stream) (turn rest : List TraceLine) → f.stream ≡ s
    → IsComing b f.coming (coming_in is_for_link (turn ++ rest))
    → (heard_if b turn f).stream
    ≡ (fold link_after (record { stream = s; is_open = b && true }) (came_all turn)).stream
turn-stream true f s turn rest e h =
    ap (λ (g : Feed). g.stream) (open_feed f s turn rest e h)
    ∙ sym (ap (λ (k : LinkStream). k.stream) (open_heard turn s))
turn-stream false f s turn rest e h =
    e ∙ sym (ap (λ (k : LinkStream). k.stream) (closed_heard turn s))

pub turn-coming : (b : Bool) (f : Feed) (s : Stream) (turn rest : List TraceLine) → f.stream ≡ s
    → IsComing b f.coming (coming_in is_for_link (turn ++ rest))
    → IsComing b (heard_if b turn f).coming (coming_in is_for_link rest)
turn-coming true f s turn rest e h = ap (λ (g : Feed). g.coming) (open_feed f s turn rest e h)
turn-coming false f s turn rest e h = tt

-- ---- acts

-- after an act that may close it
pub acted-coming : (b c : Bool) (bytes coming : List ℕ) → IsComing b bytes coming
    → IsComing (b && not c) bytes coming
acted-coming true true bytes coming h = tt
acted-coming true false bytes coming h = h
acted-coming false c bytes coming h = tt
