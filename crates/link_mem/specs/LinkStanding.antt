-- What a link in memory keeps, and the story that it stands for.
use Rattle.std.specs.Prelude.{◌≡◌, ℕ, ◌+◌, Bool, true, false, not, ◌&&◌, if◌then◌else◌, List, [], drop, Option, Some, None}
use Rattle.std.specs.List.{fold}
use Rattle.script_screen.specs.declared.trace.TraceLine.{TraceLine}
use Rattle.hub_acts.specs.declared.act.Act.{Act}
use Rattle.hub_acts.specs.declared.act.Act.TheVariants as act
use Rattle.hub_acts.specs.declared.answers.LinkWaited.{LinkWaited}
use Rattle.hub_acts.specs.declared.answers.LinkWaited.TheVariants as waited
use Rattle.hub_acts.specs.declared.answers.ReadAnswer.{ReadAnswer}
use Rattle.hub_acts.specs.declared.answers.ReadAnswer.TheVariants as read
use Rattle.hub_mem.specs.Stories.{Story, story_of, brings_turn, came_all, clock_after, clock_in, next_turn, turn_length}
use Rattle.hub_mem.specs.Streams.{Stream, is_for_link, moved}
use Rattle.hub_mem.specs.Feeds.{Feed, coming_in}
use Rattle.hub_mem.specs.Standing.{feed_after_all}
use Rattle.link_mem.specs.LinkStreams.{closes, link_in}

-- the lines, how many have come, the stream, the clock, and whether the link was not closed
pub record LinkStage : Type 0 where
  pub lines : List TraceLine
  pub at : ℕ
  pub feed : Feed
  pub clock : ℕ
  pub is_open : Bool

-- ---- what changes it

-- the stream heard these lines, if it is open
abbrev pub heard_if : Bool → List TraceLine → Feed → Feed
heard_if is_open lines f = if is_open then feed_after_all is_for_link lines f else f

-- the next turn came
abbrev pub link_advanced : LinkStage → LinkStage
link_advanced g = record g {
  at = g.at + turn_length (drop g.at g.lines);
  feed = heard_if g.is_open (next_turn (drop g.at g.lines)) g.feed;
  clock = fold clock_after g.clock (came_all (next_turn (drop g.at g.lines)));
}

abbrev pub with_stream : (Stream → Stream) → LinkStage → LinkStage
with_stream change g = record g { feed = record g.feed { stream = change g.feed.stream } }

-- an act was made that brings no turn
abbrev pub acted : Act → LinkStage → LinkStage
acted a g = record g {
  feed = record g.feed { stream = moved a g.feed.stream };
  is_open = g.is_open && not (closes a);
}

-- ---- what it stands for

-- the bytes that come later matter while it is open
abbrev pub IsComing : Bool → List ℕ → List ℕ → Type 0
IsComing true bytes coming = bytes ≡ coming
IsComing false bytes coming = Unit {0}

-- so many lines came, and the stream has heard them
pub record LinkStandsFor (g : LinkStage) (s : Story) : Type 0 where
  pub ahead : drop g.at g.lines ≡ s.ahead
  pub clock : g.clock ≡ clock_in s.scenes
  pub is_open : g.is_open ≡ (link_in s.scenes).is_open
  pub stream : g.feed.stream ≡ (link_in s.scenes).stream
  pub coming : IsComing g.is_open g.feed.coming (coming_in is_for_link s.ahead)

-- of the acts that were made
abbrev pub LinkIsSound : LinkStage → List Act → Type 0
LinkIsSound g acts = LinkStandsFor g (story_of g.lines acts)

-- ---- acts that move no stream

-- the act brings no turn, moves no stream and closes nothing
pub record LinkIsQuiet (a : Act) : Type 0 where
  pub brings : brings_turn a ≡ false
  pub moves : (s : Stream) → moved a s ≡ s
  pub stays : closes a ≡ false

-- the wait brings a turn
abbrev pub IsReady : LinkWaited → Type 0
IsReady (waited.Ready readable writable) = Unit {0}
IsReady answer = ⊥

-- the wait brings no turn
abbrev pub LinkIsNoTurn : LinkWaited → Type 0
LinkIsNoTurn waited.Over = Unit {0}
LinkIsNoTurn waited.Failed = Unit {0}
LinkIsNoTurn answer = ⊥

abbrev pub none_link_read_act : ℕ → ReadAnswer → Option Act
none_link_read_act room read.OutOfMemory = None
none_link_read_act room answer = Some (act.LinkRead room answer [])
