-- What a command writes of the bytes that it reads, how it ends, and where it stops to read.
use Rattle.std.specs.Prelude.{◌≡◌, ◌<◌, ◌≤◌, ℕ, List, ◌++◌, length, take, Some, None}
use Rattle.std.specs.List.{flat_map, AllByRecursion}
use Rattle.held_inputs.specs.declared.line.Line.{Line}
use Rattle.held_inputs.specs.Line.{line_of}
use Rattle.held_inputs.specs.Ranges.{Fits}
use Rattle.held_inputs.specs.Balanced.{Balanced, ClearAtLeaves}
use Rattle.share_base.specs.Told.{before, after, NoneLeft, IsSet, NotSet}
use Rattle.share_base.specs.Reading.{SourceState}
use Rattle.share_base.specs.Writing.{SinkState, TakesFront}
use Rattle.share_base.specs.declared.sink.Sink as sink
use Rattle.share_base.specs.declared.source.Source as source
use Rattle.message_codec.specs.declared.messages.Msg.{Msg}
use Rattle.message_codec.specs.Streams.{AreBytes, plain}
use Rattle.message_codec.specs.Verdicts.{Verdict}
use Rattle.message_reader.specs.Endings.{IsFront}
use Rattle.share_commands.specs.declared.commands.TheConstants.{INPUT_LIMIT}
use Rattle.share_commands.specs.declared.status.Status.{Status}
use Rattle.share_commands.specs.declared.status.Status.TheVariants as status
use Rattle.share_commands.specs.Ways.{Way}
use Rattle.share_commands.specs.Endings.{printed_of, decided, end_of_input}

-- the bytes read that count
abbrev pub counted : List ℕ → List ℕ
counted read = take INPUT_LIMIT read

-- the verdict on them, where all messages of the sender may stand anywhere
abbrev pub VerdictOn : Way → List ℕ → Type 0
VerdictOn w read = Verdict (plain w.sender) (counted read)

-- the input ended within the limit: no byte is left, and a read has answered so, as far as that is
-- known
pub record AtEnd (read : List ℕ) (input : SourceState) : Type 0 where
  pub none_left : NoneLeft input.left
  pub answered : IsSet input.ended
  pub within : length read ≤ INPUT_LIMIT

-- each end with its cause, after these bytes were read
pub data EndsAt (w : Way) (end : Status) (read : List ℕ) (verdict : VerdictOn w read)
    (input : SourceState) : Type 0 where
  by_bytes : decided w verdict ≡ Some end → EndsAt w end read verdict input
  at_the_end : decided w verdict ≡ None → end ≡ end_of_input w verdict → AtEnd read input
      → EndsAt w end read verdict input
  too_long : decided w verdict ≡ None → end ≡ status.InputTooLong → INPUT_LIMIT < length read
      → EndsAt w end read verdict input
  read_fault : decided w verdict ≡ None → end ≡ status.ReadFault → EndsAt w end read verdict input
  write_fault : end ≡ status.WriteFault → EndsAt w end read verdict input
  no_memory : end ≡ status.OutOfMemory → EndsAt w end read verdict input

-- an end that what was read decides: neither a fault nor want of memory
abbrev pub IsDecided : Status → Type 0
IsDecided status.ReadFault = ⊥
IsDecided status.WriteFault = ⊥
IsDecided status.OutOfMemory = ⊥
IsDecided _ = Unit {0}

-- the messages whose lines were printed: all before the end; or some of them, where the sink failed
-- or memory ran out
abbrev pub IsPrinted : Status → List Msg → List Msg → Type 0
IsPrinted status.WriteFault messages all = IsFront messages all
IsPrinted status.OutOfMemory messages all = IsFront messages all
IsPrinted end messages all = messages ≡ all

-- all the lines of the messages, and those at the end
abbrev pub all_lines : Way → List Msg → List ℕ
all_lines w messages = w.text messages ++ w.last messages

-- what the sink took: all of the lines, or a front of them where it failed
abbrev pub Writes : Way → Status → List Msg → SinkState → SinkState → Type 0
Writes w status.WriteFault messages old new = TakesFront (all_lines w messages) old.taken new.taken
Writes w end messages old new = new.taken ≡ after old.taken (all_lines w messages)

-- bytes were read; the verdict on them ends the command so; and the lines of the messages before
-- its end were written
pub record Reads (w : Way) (end : Status) (input input' : SourceState) (out out' : SinkState)
    : Type 0 where
  pub read : List ℕ
  pub bytes : AreBytes read
  pub consumed : input.left ≡ before read input'.left
  pub verdict : VerdictOn w read
  pub ending : EndsAt w end read verdict input'
  pub messages : List Msg
  pub printed : IsPrinted end messages (printed_of w verdict)
  pub writes : Writes w end messages out out'

-- so it is of what shows the bytes
abbrev pub Streams : {S K : Type 0} → Way → Status → source.Ghosts S → S → S → sink.Ghosts K → K
    → K → Type 0
Streams w end from input input' to out out' =
    Reads w end (from.state input) (from.state input') (to.state out) (to.state out')

-- before the latest read no read had answered the end, and the bytes read were within the limit and
-- decided no end
pub record Stops (w : Way) (input input' : SourceState) : Type 0 where
  pub earlier : List ℕ
  pub consumed : input.left ≡ before earlier input'.left_before
  pub not_ended : NotSet input'.ended_before
  pub within : length earlier ≤ INPUT_LIMIT
  pub verdict : Verdict (plain w.sender) earlier
  pub undecided : decided w verdict ≡ None

-- what was written are lines within their ranges, so that the bytes are read as these lines alone,
-- in which every key and every mouse button went up, one up for each down, and nothing was down
-- where the cursor left
pub record Balances (old new : SinkState) : Type 0 where
  pub lines : List Line
  pub written : new.taken ≡ after old.taken (flat_map line_of lines)
  pub fits : AllByRecursion Fits lines
  pub balanced : Balanced lines
  pub leaves : ClearAtLeaves lines

-- so it is at every end, but where the sink failed
abbrev pub Releases : Status → SinkState → SinkState → Type 0
Releases status.WriteFault old new = Unit {0}
Releases end old new = Balances old new
