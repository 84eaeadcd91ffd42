-- What a hub in memory keeps, and the story that it stands for.
use Rattle.std.specs.Prelude.{◌≡◌, ℕ, ◌+◌, ◌<◌, ◌≤◌, ◌==◌, Bool, false, if◌then◌else◌, List, [], drop, length, Option, Some, None, All, slice_get, filter}
use Rattle.std.specs.List.{fold}
use Rattle.std.specs.Option.{option_map}
use Rattle.script_screen.specs.declared.trace.TraceLine.{TraceLine}
use Rattle.script_screen.specs.Traces.{is_join}
use Rattle.hub_acts.specs.declared.act.Act.{Act}
use Rattle.hub_acts.specs.declared.act.Act.TheVariants as act
use Rattle.hub_acts.specs.declared.answers.Waited.{Waited}
use Rattle.hub_acts.specs.declared.answers.Waited.TheVariants as waited
use Rattle.hub_acts.specs.declared.answers.ReadAnswer.{ReadAnswer}
use Rattle.hub_acts.specs.declared.answers.ReadAnswer.TheVariants as read
use Rattle.hub_acts.specs.declared.answers.WriteAnswer.{WriteAnswer}
use Rattle.hub_acts.specs.declared.answers.WriteAnswer.TheVariants as written
use Rattle.hub_acts.specs.Counting.{latest_with}
use Rattle.hub_mem.specs.Tallies.{tally_of}
use Rattle.hub_mem.specs.Stories.{Story, story_of, brings_turn, came_all, clock_after, clock_in, joined_after, joined_in, next_turn, turn_length}
use Rattle.hub_mem.specs.Streams.{Stream, connection_of, moved, names}
use Rattle.hub_mem.specs.Feeds.{Feed, coming_in, feed_in, feed_seen, with_coming}

-- the streams, each at the index of its serial; how many have joined, and the clock
pub record Table : Type 0 where
  pub feeds : List Feed
  pub joined : ℕ
  pub clock : ℕ

-- ---- lines

abbrev pub feed_after : (TraceLine → Bool) → Feed → TraceLine → Feed
feed_after has_line f l = feed_seen has_line l f

abbrev pub feed_after_all : (TraceLine → Bool) → List TraceLine → Feed → Feed
feed_after_all has_line lines f = fold (feed_after has_line) f lines

-- the table heard these lines
pub record Hears (lines : List TraceLine) (old new : Table) : Type 0 where
  pub feeds : (c : ℕ)
      → slice_get new.feeds c ≡ option_map (feed_after_all (names c) lines) (slice_get old.feeds c)
  pub size : length new.feeds ≡ length old.feeds
  pub joined : new.joined ≡ fold joined_after old.joined (came_all lines)
  pub clock : new.clock ≡ fold clock_after old.clock (came_all lines)

-- one stream heard a line, and nothing else changed
pub record HearsAt (serial : ℕ) (l : TraceLine) (old new : Table) : Type 0 where
  pub feeds : (c : ℕ)
      → slice_get new.feeds c ≡ option_map (feed_seen (λ x. serial == c) l) (slice_get old.feeds c)
  pub size : length new.feeds ≡ length old.feeds
  pub joined : new.joined ≡ old.joined
  pub clock : new.clock ≡ old.clock

-- the bytes that these lines have for each stream come later
pub record AddsComing (lines : List TraceLine) (old new : Table) : Type 0 where
  pub feeds : (c : ℕ)
      → slice_get new.feeds c ≡ option_map (with_coming (coming_in (names c) lines))
      (slice_get old.feeds c)
  pub size : length new.feeds ≡ length old.feeds
  pub joined : new.joined ≡ old.joined
  pub clock : new.clock ≡ old.clock

abbrev pub coming_if : Bool → List ℕ → Feed → Feed
coming_if b bytes f = if b then with_coming bytes f else f

-- bytes come later to one stream, and nothing else changed
pub record AddsAt (serial : ℕ) (bytes : List ℕ) (old new : Table) : Type 0 where
  pub feeds : (c : ℕ)
      → slice_get new.feeds c ≡ option_map (coming_if (serial == c) bytes) (slice_get old.feeds c)
  pub size : length new.feeds ≡ length old.feeds
  pub joined : new.joined ≡ old.joined
  pub clock : new.clock ≡ old.clock

-- ---- acts

abbrev pub changed_if : Bool → (Stream → Stream) → Feed → Feed
changed_if b change f = if b then record f { stream = change f.stream } else f

-- the stream of that serial changed, and nothing else
pub record Changes (serial : ℕ) (change : Stream → Stream) (old new : Table) : Type 0 where
  pub feeds : (c : ℕ)
      → slice_get new.feeds c ≡ option_map (changed_if (serial == c) change) (slice_get old.feeds c)
  pub size : length new.feeds ≡ length old.feeds
  pub joined : new.joined ≡ old.joined
  pub clock : new.clock ≡ old.clock

-- ---- a trace and its streams

-- the lines, how many have come, and the streams
pub record Stage : Type 0 where
  pub lines : List TraceLine
  pub at : ℕ
  pub table : Table

-- the next turn came
pub record Advances (old new : Stage) : Type 0 where
  pub lines : new.lines ≡ old.lines
  pub at : new.at ≡ old.at + turn_length (drop old.at old.lines)
  pub hears : Hears (next_turn (drop old.at old.lines)) old.table new.table

-- the connection of that serial has its feed at that index
abbrev pub AreFeeds : List Feed → Story → Type 0
AreFeeds feeds s = (c : ℕ) (f : Feed) → slice_get feeds c ≡ Some f → f ≡ feed_in (connection_of c) s

-- so many lines came, and the streams have heard them
pub record StandsFor (g : Stage) (s : Story) : Type 0 where
  pub ahead : drop g.at g.lines ≡ s.ahead
  pub joined : g.table.joined ≡ joined_in s.scenes
  pub clock : g.table.clock ≡ clock_in s.scenes
  pub feeds : AreFeeds g.table.feeds s
  pub room : g.table.joined + length (filter is_join s.ahead) < length g.table.feeds

-- only connections that joined are accepted, and only accepted ones are open
pub record AreAccepted (joined : ℕ) (acts : List Act) : Type 0 where
  pub accepted : (tally_of acts).latest ≤ joined
  pub open_ones : All (λ c. c ≤ (tally_of acts).latest) (tally_of acts).serials

pub record IsSound (g : Stage) (acts : List Act) : Type 0 where
  pub stands : StandsFor g (story_of g.lines acts)
  pub joined : AreAccepted g.table.joined acts

-- ---- acts that move no stream

-- the act brings no turn and moves no stream, and gives no serial but one that has joined
pub record IsQuiet (a : Act) (joined latest : ℕ) : Type 0 where
  pub brings : brings_turn a ≡ false
  pub moves : (s : Stream) → moved a s ≡ s
  pub grows : latest ≤ latest_with a latest
  pub within : latest ≤ joined → latest_with a latest ≤ joined

-- the wait brings no turn
abbrev pub IsNoTurn : Waited → Type 0
IsNoTurn waited.Over = Unit {0}
IsNoTurn waited.Failed = Unit {0}
IsNoTurn answer = ⊥

-- the read gives no byte
abbrev pub IsNoByte : ReadAnswer → Type 0
IsNoByte (read.Got n) = ⊥
IsNoByte read.OutOfMemory = ⊥
IsNoByte answer = Unit {0}

abbrev pub IsNoByteOrNoMemory : ReadAnswer → Type 0
IsNoByteOrNoMemory (read.Got n) = ⊥
IsNoByteOrNoMemory answer = Unit {0}

abbrev pub none_read_act : ℕ → ℕ → ReadAnswer → Option Act
none_read_act serial room read.OutOfMemory = None
none_read_act serial room answer = Some (act.Read serial room answer [])

-- the write takes no byte
abbrev pub IsNotTaken : WriteAnswer → Type 0
IsNotTaken written.NotNow = Unit {0}
IsNotTaken written.Failed = Unit {0}
IsNotTaken answer = ⊥

abbrev pub IsNotTakenOrNoMemory : WriteAnswer → Type 0
IsNotTakenOrNoMemory (written.Took n) = ⊥
IsNotTakenOrNoMemory answer = Unit {0}
