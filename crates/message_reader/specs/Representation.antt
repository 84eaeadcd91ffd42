-- A reader between two steps: the stream that it was fed, and the messages of it that it gave.
use Rattle.std.specs.Prelude.{◌≡◌, ℕ, List, [], ◌∷◌, ◌++◌, length, Option, Some, None}
use Rattle.message_codec.specs.declared.messages.Msg.{Msg}
use Rattle.message_codec.specs.Streams.{AreBytes, frames_of, AllGood}
use Rattle.message_codec.specs.Verdicts.{IsBad}
use Rattle.message_reader.specs.declared.reader.BadFrame.{BadFrame}
use Rattle.message_reader.specs.Roles.{has_begun, reader_of}
use Rattle.message_reader.specs.ReaderParts.{ReaderParts}

-- it keeps the rest after those messages; or that rest begins with the bad frame
abbrev pub StandsAt : ReaderParts → Option BadFrame → List Msg → List ℕ → Type 0
StandsAt r None messages rest = r.framer.rest ≡ rest
StandsAt r (Some bad) messages rest =
    (bad.place ≡ length (frames_of messages)) × IsBad (reader_of r.role) messages bad.reason rest

-- the reader was fed this stream, and gave these messages of it
pub record Represents (r : ReaderParts) (stream : List ℕ) (messages : List Msg) : Type 0 where
  pub rest : List ℕ
  pub stream_is : stream ≡ frames_of messages ++ rest
  pub bytes : AreBytes stream
  pub good : AllGood (reader_of r.role) [] messages
  pub total : r.total ≡ length stream
  pub begun : r.begun ≡ has_begun messages
  pub place : r.framer.given ≡ length (frames_of messages)
  pub stands : StandsAt r r.bad messages rest

-- it met no bad frame
pub record IsOpen (r : ReaderParts) (stream : List ℕ) (messages : List Msg) : Type 0 where
  pub represents : Represents r stream messages
  pub fine : r.bad ≡ None

-- the offset of the first byte that is part of no message given; none where there is no such byte,
-- or after a bad frame
abbrev pub pending_at : Option BadFrame → ℕ → List ℕ → Option ℕ
pending_at (Some bad) place rest = None
pending_at None place [] = None
pending_at None place (byte ∷ bytes) = Some place

abbrev pub IsPending : ReaderParts → Option ℕ → Type 0
IsPending r found =
    (stream : List ℕ) (messages : List Msg) → (h : Represents r stream messages)
    → found ≡ pending_at r.bad (length (frames_of messages)) h.rest
