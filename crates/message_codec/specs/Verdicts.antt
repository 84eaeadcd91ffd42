-- The verdict on a stream: its messages, and the first bad frame after them or the rest.
use Rattle.std.specs.Prelude.{◌≡◌, ℕ, ◌≤◌, false, List, [], ◌++◌, length, Option, Some, None}
use Rattle.share_base.specs.declared.reason.Reason.{Reason}
use Rattle.share_base.specs.declared.reason.Reason.TheVariants as reason
use Rattle.wire_frames.specs.Framing.{frame, IsPartial, IsTooLong}
use Rattle.message_codec.specs.declared.messages.Msg.{Msg}
use Rattle.message_codec.specs.declared.faults.BadBody.{BadBody}
use Rattle.message_codec.specs.Spelling.{body_of, Spells}
use Rattle.message_codec.specs.Refusals.{Refuses}
use Rattle.message_codec.specs.Reasons.{reason_of}
use Rattle.message_codec.specs.Streams.{frame_of, frames_of, Reader, AllGood}

-- a whole frame within the limit stands at the front, and its body is refused
pub record IsRefused (reader : Reader) (before : List Msg) (why : Reason) (bytes : List ℕ)
    : Type 0 where
  pub body : List ℕ
  pub more : List ℕ
  pub front : bytes ≡ frame body ++ more
  pub within : length body ≤ reader.limit before
  pub fault : BadBody
  pub refused : Refuses fault reader.from body
  pub for_it : why ≡ reason_of fault

-- a whole frame within the limit stands at the front, of a message that may not stand there
pub record IsMisplaced (reader : Reader) (before : List Msg) (bytes : List ℕ) : Type 0 where
  pub message : Msg
  pub more : List ℕ
  pub front : bytes ≡ frame_of message ++ more
  pub within : length (body_of message) ≤ reader.limit before
  pub spelled : Spells reader.from message (body_of message)
  pub not_taken : reader.takes before message ≡ false

-- after those messages, a frame that is bad for that reason stands at the front
abbrev pub IsBad : Reader → List Msg → Reason → List ℕ → Type 0
IsBad reader before reason.TooLong bytes = IsTooLong (reader.limit before) bytes
IsBad reader before reason.State bytes = IsMisplaced reader before bytes
IsBad reader before reason.Cut bytes = ⊥
IsBad reader before why bytes = IsRefused reader before why bytes

-- after those messages, less than a frame is left, or a frame that is bad for that reason stands at
-- the front
abbrev pub Rests : Reader → List Msg → Option Reason → List ℕ → Type 0
Rests reader before None bytes = IsPartial (reader.limit before) bytes
Rests reader before (Some why) bytes = IsBad reader before why bytes

-- the stream is the frames of these messages, each where it may stand, and then a rest; it stands
-- at that place, and may be bad
pub record Verdict (reader : Reader) (stream : List ℕ) : Type 0 where
  pub messages : List Msg
  pub rest : List ℕ
  pub place : ℕ
  pub bad : Option Reason
  pub stream_is : stream ≡ frames_of messages ++ rest
  pub good : AllGood reader [] messages
  pub place_is : place ≡ length (frames_of messages)
  pub ends : Rests reader messages bad rest
