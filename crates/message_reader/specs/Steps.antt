-- What the calls of a reader do to the streams that it stands for.
use Rattle.std.specs.Prelude.{◌≡◌, ℕ, ◌+◌, ◌<◌, List, [], ◌∷◌, ◌++◌, length, Option, Some, None}
use Rattle.std.specs.Option.{option_map}
use Rattle.share_base.specs.declared.reason.Reason.{Reason}
use Rattle.message_codec.specs.declared.messages.Msg.{Msg}
use Rattle.message_codec.specs.Streams.{frames_of, Reader}
use Rattle.message_codec.specs.Verdicts.{Verdict}
use Rattle.message_reader.specs.declared.reader.BadFrame.{BadFrame}
use Rattle.message_reader.specs.declared.reader.ReadStep.{ReadStep}
use Rattle.message_reader.specs.declared.reader.ReadStep.TheVariants as step
use Rattle.message_reader.specs.Roles.{reader_of}
use Rattle.message_reader.specs.ReaderParts.{ReaderParts}
use Rattle.message_reader.specs.Representation.{Represents, pending_at}

-- a piece was put at the end of the stream
pub record Extends (old new : ReaderParts) (piece : List ℕ) : Type 0 where
  pub role : new.role ≡ old.role
  pub total : new.total ≡ old.total + length piece
  pub represents : (stream : List ℕ) (messages : List Msg) → Represents old stream messages
      → Represents new (stream ++ piece) messages

-- the bad frame of a verdict, with its place
abbrev pub bad_frame : {reader : Reader} {stream : List ℕ} → Verdict reader stream → Option BadFrame
bad_frame verdict =
    option_map (λ (why : Reason). record { place = verdict.place; reason = why }) verdict.bad

-- where a frame begins of which some bytes have come and not all
abbrev pub partial_at : {reader : Reader} {stream : List ℕ} → Verdict reader stream → Option ℕ
partial_at verdict = pending_at None verdict.place verdict.rest

-- the verdict on the stream has these messages, and then this bad frame or less than a frame
pub record Concludes (reader : Reader) (stream : List ℕ) (messages : List Msg)
    (bad : Option BadFrame) : Type 0 where
  pub verdict : Verdict reader stream
  pub messages_are : verdict.messages ≡ messages
  pub bad_is : bad_frame verdict ≡ bad

-- the next message was given, whose frame begins at that place
pub record GivesMessage (old new : ReaderParts) (place : ℕ) (m : Msg) : Type 0 where
  pub role : new.role ≡ old.role
  pub shorter : length new.framer.rest < length old.framer.rest
  pub place_is : (stream : List ℕ) (messages : List Msg) → Represents old stream messages
      → place ≡ length (frames_of messages)
  pub represents : (stream : List ℕ) (messages : List Msg) → Represents old stream messages
      → Represents new stream (messages ++ m ∷ [])

-- no message is left: the verdict on the stream has those that were given
pub record GivesNone (old new : ReaderParts) (bad : Option BadFrame) : Type 0 where
  pub role : new.role ≡ old.role
  pub bad_is : new.bad ≡ bad
  pub concludes : (stream : List ℕ) (messages : List Msg) → Represents old stream messages
      → Concludes (reader_of new.role) stream messages bad
  pub represents : (stream : List ℕ) (messages : List Msg) → Represents old stream messages
      → Represents new stream messages

-- the next part of the verdict was given
abbrev pub Gives : ReaderParts → ReaderParts → ReadStep → Type 0
Gives old new (step.Message place m) = GivesMessage old new place m
Gives old new step.More = GivesNone old new None
Gives old new (step.Bad bad) = GivesNone old new (Some bad)
