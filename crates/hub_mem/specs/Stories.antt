-- What happens to a hub or a link in memory, in its order: its acts, and the lines of the trace as
-- they come.
use Rattle.std.specs.Prelude.{ℕ, ◌+◌, Bool, true, false, List, [], ◌∷◌, ◌++◌, map, take, drop}
use Rattle.std.specs.List.{fold, prefix_len}
use Rattle.share_base.specs.Counts.{one_more}
use Rattle.script_screen.specs.declared.trace.TraceLine.{TraceLine}
use Rattle.script_screen.specs.declared.trace.TraceLine.TheVariants as line
use Rattle.script_screen.specs.Traces.{moment_after}
use Rattle.hub_acts.specs.declared.act.Act.{Act}
use Rattle.hub_acts.specs.declared.act.Act.TheVariants as act
use Rattle.hub_acts.specs.declared.answers.Waited.TheVariants as waited
use Rattle.hub_acts.specs.declared.answers.LinkWaited.TheVariants as link_waited

pub data Scene : Type 0 where
  Came : (l : TraceLine) → Scene
  Made : (a : Act) → Scene

-- what happened, the oldest first, and the lines that have not come
pub record Story : Type 0 where
  pub scenes : List Scene
  pub ahead : List TraceLine

-- ---- turns

-- the line belongs to the turn above it
abbrev pub is_in_turn : TraceLine → Bool
is_in_turn (line.Turn t) = false
is_in_turn l = true

-- how many lines the next turn has: its own line, and those below it
abbrev pub turn_length : List TraceLine → ℕ
turn_length [] = 0
turn_length (l ∷ ls) = 1 + prefix_len is_in_turn ls

abbrev pub next_turn : List TraceLine → List TraceLine
next_turn ahead = take (turn_length ahead) ahead

-- the lines of a trace, and how many of them have come
pub record TraceAt : Type 0 where
  pub lines : List TraceLine
  pub at : ℕ

-- the next turn came
abbrev pub passed : TraceAt → TraceAt
passed t = record t { at = t.at + turn_length (drop t.at t.lines) }

-- a wait that is ready brings the next turn
abbrev pub brings_turn : Act → Bool
brings_turn (act.Wait ms waited.Ready marks) = true
brings_turn (act.LinkWait ms (link_waited.Ready readable writable)) = true
brings_turn a = false

abbrev pub lines_brought : Bool → List TraceLine → ℕ
lines_brought true ahead = turn_length ahead
lines_brought false ahead = 0

-- ---- stories

abbrev pub came_all : List TraceLine → List Scene
came_all lines = map Came lines

abbrev pub story_with : ℕ → Story → Act → Story
story_with n s a =
    record { scenes = s.scenes ++ Made a ∷ came_all (take n s.ahead); ahead = drop n s.ahead }

abbrev pub story_after : Story → Act → Story
story_after s a = story_with (lines_brought (brings_turn a) s.ahead) s a

abbrev pub story_of : List TraceLine → List Act → Story
story_of lines acts = fold story_after (record { scenes = []; ahead = lines }) acts

-- ---- the clock, and who joined

abbrev pub clock_after : ℕ → Scene → ℕ
clock_after moment (Came l) = moment_after moment l
clock_after moment (Made a) = moment

-- the moment of the latest turn, 0 before the first
abbrev pub clock_in : List Scene → ℕ
clock_in scenes = fold clock_after 0 scenes

abbrev pub joined_after : ℕ → Scene → ℕ
joined_after count (Came (line.Join c)) = one_more count
joined_after count s = count

-- how many connections have joined
abbrev pub joined_in : List Scene → ℕ
joined_in scenes = fold joined_after 0 scenes
