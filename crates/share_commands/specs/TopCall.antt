-- What the top call does for each command that its words name.
use Rattle.std.specs.Prelude.{ℕ, List, Option, IfSome, String}
use Rattle.std.specs.Global.{Global}
use Rattle.share_base.specs.Reading.{SourceState}
use Rattle.share_base.specs.declared.files.Files as files
use Rattle.share_base.specs.declared.sink.Sink as sink
use Rattle.share_base.specs.declared.source.Source as source
use Rattle.hub_acts.specs.declared.hub.Hub as hub
use Rattle.hub_acts.specs.declared.link.Link as link
use Rattle.command_words.specs.Forms.{Form, Check, Replay, Serve, Join, Generate, Names}
use Rattle.share_commands.specs.declared.status.Status.{Status}
use Rattle.share_commands.specs.Words.{way_of}
use Rattle.share_commands.specs.Commands.{Reads, Stops}
use Rattle.share_commands.specs.Checking.{Checks}
use Rattle.share_commands.specs.Replaying.{ReplaysFiles, given_by}
use Rattle.share_commands.specs.OneOutput.{WritesOneOutput}
use Rattle.share_commands.specs.Headline.{SharesIfRun}
use Rattle.share_commands.specs.Serving.{ServesFiles, to_serve}
use Rattle.share_commands.specs.ServingHeadline.{SharesIfServed}
use Rattle.share_commands.specs.Joining.{JoinsFiles, to_join}
use Rattle.share_commands.specs.Generating.{GeneratesFrom}

-- the words that are given
abbrev pub Words : Type 0
Words = List (String Global)

-- what the file of each name holds, where it is told
abbrev pub Told : Type 0
Told = List ℕ → Option (List ℕ)

-- ---- if the words name that command, this holds

abbrev pub IfCheck : Words → Type 0 → Type 0
IfCheck words Holds = (config : List ℕ) → Names (Check config) words → Holds

abbrev pub IfReplay : Words → Type 0 → Type 0
IfReplay words Holds =
    (config script trace : List ℕ) → Names (Replay config script trace) words → Holds

abbrev pub IfServe : Words → Type 0 → Type 0
IfServe words Holds =
    (config script : List ℕ) (port turns : ℕ) → Names (Serve config script port turns) words
    → Holds

abbrev pub IfJoin : Words → Type 0 → Type 0
IfJoin words Holds =
    (name host : List ℕ) (port w h : ℕ) (script : List ℕ) (turns : ℕ)
    → Names (Join name host port w h script turns) words → Holds

-- ---- commands that read a stream

-- the input was read in the command's way, and its lines were written so
abbrev pub DoesStream : {S K : Type 0} → Words → Status → source.Ghosts S → S → S → sink.Ghosts K
    → K → K → Type 0
DoesStream words end from input input' to out out' =
    (command : Form) → Names command words
    → IfSome (way_of command) (λ way.
    Reads way end (from.state input) (from.state input') (to.state out) (to.state out'))

-- it was read no further than the command needs
abbrev pub StopsInTime : Words → SourceState → SourceState → Type 0
StopsInTime words input input' =
    (command : Form) → Names command words
    → IfSome (way_of command) (λ way. Stops way input input')

-- ---- check

-- `check` made that of the file
abbrev pub ChecksFile : {K : Type 0} → Words → Status → Told → sink.Ghosts K → K → K → Type 0
ChecksFile words end told to out out' =
    (config : List ℕ) → Names (Check config) words
    → Checks end (told config) (to.state out) (to.state out')

-- ---- replay

-- `replay` made that of the three files
abbrev pub Replays : {F K : Type 0} → Words → Status → files.Ghosts F → F → F → sink.Ghosts K → K
    → K → Type 0
Replays words end seen old new to out out' =
    (config script trace : List ℕ) → Names (Replay config script trace) words
    → ReplaysFiles end (given_by (seen.told old) config script trace) (seen.calls old)
    (seen.calls new) (to.state out) (to.state out')

-- the headline holds of what it wrote
abbrev pub ReplayShares : {K : Type 0} → Words → Status → Told → sink.Ghosts K → K → K → Type 0
ReplayShares words end told to out out' =
    (config script trace : List ℕ) → Names (Replay config script trace) words
    → SharesIfRun end (given_by told config script trace) (to.state out) (to.state out')

-- the files have one output, which it wrote
abbrev pub HasOneOutput : {K : Type 0} → Words → Status → Told → sink.Ghosts K → K → K → Type 0
HasOneOutput words end told to out out' =
    (config script trace : List ℕ) → Names (Replay config script trace) words
    → WritesOneOutput end (given_by told config script trace) (to.state out) (to.state out')

-- ---- serve

-- `serve` made that of the two files and the hub
abbrev pub Serves : {F H K : Type 0} → Words → Status → files.Ghosts F → F → F → hub.Ghosts H → H
    → H → sink.Ghosts K → K → K → Type 0
Serves words end seen old new on hub hub' to out out' =
    (config script : List ℕ) (port turns : ℕ) → Names (Serve config script port turns) words
    → ServesFiles on.state on.leads end (to_serve (seen.told old) config script port turns)
    (seen.calls old) (seen.calls new) hub hub' (to.state out) (to.state out')

-- the headline holds of what it wrote
abbrev pub ServeShares : {H K : Type 0} → Words → Status → Told → hub.Ghosts H → H → H
    → sink.Ghosts K → K → K → Type 0
ServeShares words end told on hub hub' to out out' =
    (config script : List ℕ) (port turns : ℕ) → Names (Serve config script port turns) words
    → SharesIfServed on.state end (to_serve told config script port turns) hub hub' (to.state out)
    (to.state out')

-- ---- join

-- `join` made that of the file and the link
abbrev pub Joins : {F L K : Type 0} → Words → Status → files.Ghosts F → F → F → link.Ghosts L → L
    → L → sink.Ghosts K → K → K → Type 0
Joins words end seen old new on link link' to out out' =
    (name host : List ℕ) (port w h : ℕ) (script : List ℕ) (turns : ℕ)
    → Names (Join name host port w h script turns) words
    → JoinsFiles on.state on.leads end (to_join (seen.told old) name host port w h script turns)
    (seen.calls old) (seen.calls new) link link' (to.state out) (to.state out')

-- ---- generate

-- `generate` made that of its number
abbrev pub Generates : {K : Type 0} → Words → Status → sink.Ghosts K → K → K → Type 0
Generates words end to out out' =
    (n : ℕ) → Names (Generate n) words → GeneratesFrom end n (to.state out) (to.state out')
