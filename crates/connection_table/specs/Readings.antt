-- What one piece of a connection's bytes brings.
use Rattle.std.specs.Prelude.{◌≡◌, ℕ, List, ◌++◌}
use Rattle.message_codec.specs.declared.messages.Msg.{Msg}
use Rattle.message_reader.specs.ReaderParts.{ReaderParts}
use Rattle.message_reader.specs.Representation.{Represents}
use Rattle.message_reader.specs.Roles.{reader_of}
use Rattle.message_reader.specs.Steps.{Concludes}
use Rattle.connection_table.specs.declared.reading.Reading.{Reading}

-- the reader gave these messages after those before, and the verdict on the stream with the piece
-- has no others; it says too whether a bad frame comes after them
pub record Brings (piece : List ℕ) (reading : Reading) (old new : ReaderParts) : Type 0 where
  pub role : new.role ≡ old.role
  pub represents : (stream : List ℕ) (given : List Msg) → Represents old stream given
      → Represents new (stream ++ piece) (given ++ reading.messages.items)
  pub concludes : (stream : List ℕ) (given : List Msg) → Represents old stream given
      → Concludes (reader_of new.role) (stream ++ piece) (given ++ reading.messages.items)
      reading.bad
