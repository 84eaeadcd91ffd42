-- What a core of a command stands for: the stream that it was fed, and the messages of it that it
-- printed.
use Rattle.std.specs.Prelude.{◌≡◌, ℕ, ◌≤◌, List, ◌++◌, length, Option, Some, None, ◌⊎◌}
use Rattle.share_base.specs.Counts.{Rises}
use Rattle.share_base.specs.Told.{after}
use Rattle.share_base.specs.Writing.{SinkState, TakesFront}
use Rattle.message_codec.specs.declared.messages.Msg.{Msg}
use Rattle.message_codec.specs.Streams.{Reader, plain}
use Rattle.message_codec.specs.Verdicts.{Verdict}
use Rattle.message_reader.specs.Endings.{IsFront}
use Rattle.share_commands.specs.declared.status.Status.{Status}
use Rattle.share_commands.specs.declared.status.Status.TheVariants as status
use Rattle.share_commands.specs.Ways.{Way}
use Rattle.share_commands.specs.Endings.{printed_of, decided, end_of_input}

-- how a core that printed these messages has ended: as the verdict says, after all that are
-- printed; or out of memory, after some of them
abbrev pub IsDone : {reader : Reader} {stream : List ℕ} → Way → Option Status
    → Verdict reader stream → List Msg → Type 0
IsDone w (Some status.OutOfMemory) verdict messages = IsFront messages (printed_of w verdict)
IsDone w done verdict messages = (done ≡ decided w verdict) × (messages ≡ printed_of w verdict)

-- the core printed these messages of the stream: the lines that were taken and then its lines are
-- theirs
pub record Prints (w : Way) (reader : Reader) (lines : List ℕ) (done : Option Status)
    (stream : List ℕ) (messages : List Msg) (taken : List ℕ) : Type 0 where
  pub verdict : Verdict reader stream
  pub ended : IsDone w done verdict messages
  pub lines_are : taken ++ lines ≡ w.text messages

pub record Keeps (w : Way) (lines : List ℕ) (done : Option Status) (total : ℕ) (stream : List ℕ)
    (messages : List Msg) (taken : List ℕ) : Type 0 where
  pub prints : Prints w (plain w.sender) lines done stream messages taken
  pub total_is : total ≤ length stream

-- how a core stands for a stream, its messages and the lines that were taken, on its way
abbrev pub Standing : Type 0 → Type 1
Standing C = C → Way → List ℕ → List Msg → List ℕ → Type 0

-- a piece was fed, and more messages were printed
abbrev pub Feeds : {C : Type 0} → Standing C → C → C → List ℕ → Type 0
Feeds kept old new piece =
    (w : Way) (stream : List ℕ) (messages : List Msg) (taken : List ℕ)
    → kept old w stream messages taken
    → (more : List Msg) × kept new w (stream ++ piece) (messages ++ more) taken

-- the lines were taken
abbrev pub Clears : {C : Type 0} → Standing C → C → C → List ℕ → Type 0
Clears kept old new lines =
    (w : Way) (stream : List ℕ) (messages : List Msg) (taken : List ℕ)
    → kept old w stream messages taken → kept new w stream messages (taken ++ lines)

-- the command ends so where its input ends after this stream
pub record EndsHere (w : Way) (end : Status) (stream : List ℕ) (messages : List Msg) : Type 0 where
  pub verdict : Verdict (plain w.sender) stream
  pub undecided : decided w verdict ≡ None
  pub printed : messages ≡ printed_of w verdict
  pub end_is : end ≡ end_of_input w verdict

abbrev pub EndsInput : {C : Type 0} → Standing C → C → Status → Type 0
EndsInput kept core end =
    (w : Way) (stream : List ℕ) (messages : List Msg) (taken : List ℕ)
    → kept core w stream messages taken → EndsHere w end stream messages

-- the bytes are the lines that are added at the end
abbrev pub AddsLast : {C : Type 0} → Standing C → C → List ℕ → Type 0
AddsLast kept core bytes =
    (w : Way) (stream : List ℕ) (messages : List Msg) (taken : List ℕ)
    → kept core w stream messages taken → bytes ≡ w.last messages

-- the last lines were written, and the command ended so; or a front of them was, and the sink
-- failed
abbrev pub Finishes : Way → Status → Status → List Msg → SinkState → SinkState → Type 0
Finishes w end result messages old new =
    ((result ≡ end) × (new.taken ≡ after old.taken (w.last messages)) × (new.faults ≡ old.faults))
    ⊎ ((result ≡ status.WriteFault) × TakesFront (w.last messages) old.taken new.taken
    × Rises old.faults new.faults)

abbrev pub FinishesCore : {C : Type 0} → Standing C → C → Status → Status → SinkState → SinkState
    → Type 0
FinishesCore kept core end result old new =
    (w : Way) (stream : List ℕ) (messages : List Msg) (taken : List ℕ)
    → kept core w stream messages taken → Finishes w end result messages old new
