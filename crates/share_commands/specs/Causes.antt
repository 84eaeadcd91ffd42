-- The causes of faults: which count rose at which status.
use Rattle.std.specs.Prelude.{◌≡◌, ℕ, ◌≤◌, ◌⊎◌}
use Rattle.share_base.specs.Counts.{Rises}
use Rattle.share_base.specs.Reading.{SourceState}
use Rattle.share_base.specs.Writing.{SinkState}
use Rattle.share_base.specs.declared.files.Files as files
use Rattle.share_base.specs.declared.sink.Sink as sink
use Rattle.share_base.specs.declared.source.Source as source
use Rattle.hub_acts.specs.declared.hub.Hub as hub
use Rattle.share_commands.specs.declared.status.Status.{Status}
use Rattle.share_commands.specs.declared.status.Status.TheVariants as status

-- the count of the output's faults rose at a write fault, and stayed at every other status
abbrev pub SinkCounts : Status → ℕ → ℕ → Type 0
SinkCounts status.WriteFault old new = Rises old new
SinkCounts _ old new = new ≡ old

-- the count of the input's faults rose at a read fault, and stayed at every other status; where the
-- last lines could not be written after a read fault, the write fault is answered
abbrev pub SourceCounts : Status → ℕ → ℕ → Type 0
SourceCounts status.ReadFault old new = Rises old new
SourceCounts status.WriteFault old new = (new ≡ old) ⊎ Rises old new
SourceCounts _ old new = new ≡ old

abbrev pub Causes : Status → SourceState → SourceState → SinkState → SinkState → Type 0
Causes end input input' out out' =
    SourceCounts end input.faults input'.faults × SinkCounts end out.faults out'.faults

-- the count of the files' faults rose at a read fault, and stayed at every other status
abbrev pub FileCounts : Status → ℕ → ℕ → Type 0
FileCounts status.ReadFault old new = Rises old new
FileCounts _ old new = new ≡ old

abbrev pub FileCauses : Status → ℕ → ℕ → SinkState → SinkState → Type 0
FileCauses end files files' out out' =
    FileCounts end files files' × SinkCounts end out.faults out'.faults

-- the count of the hub's faults rose at a hub fault, and stayed at every other status; where the
-- output failed or memory ran out, it may have risen before that
abbrev pub HubFaults : Status → ℕ → ℕ → Type 0
HubFaults status.HubFault old new = Rises old new
HubFaults status.WriteFault old new = old ≤ new
HubFaults status.OutOfMemory old new = old ≤ new
HubFaults _ old new = new ≡ old

-- a command reads the input or a file: one of the counts goes by the status, and the other stayed
abbrev pub ReadCounts : Status → ℕ → ℕ → ℕ → ℕ → Type 0
ReadCounts end files files' source source' =
    (FileCounts end files files' × (source' ≡ source))
    ⊎ (SourceCounts end source source' × (files' ≡ files))

-- ---- the same of what shows the counts

abbrev pub ReadCauses : {F S : Type 0} → Status → files.Ghosts F → F → F → source.Ghosts S → S → S
    → Type 0
ReadCauses end seen old new from input input' =
    ReadCounts end (seen.faults old) (seen.faults new) (from.state input).faults
    (from.state input').faults

abbrev pub StreamCauses : {S K : Type 0} → Status → source.Ghosts S → S → S → sink.Ghosts K → K → K
    → Type 0
StreamCauses end from input input' to out out' =
    Causes end (from.state input) (from.state input') (to.state out) (to.state out')

abbrev pub FilesCauses : {F K : Type 0} → Status → files.Ghosts F → F → F → sink.Ghosts K → K → K
    → Type 0
FilesCauses end seen old new to out out' =
    FileCauses end (seen.faults old) (seen.faults new) (to.state out) (to.state out')

abbrev pub CountsHubFaults : {H : Type 0} → Status → hub.Ghosts H → H → H → Type 0
CountsHubFaults end on old new = HubFaults end (on.state old).faults (on.state new).faults
