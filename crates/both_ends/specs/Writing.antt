-- Messages that can be written.
use Rattle.std.specs.Prelude.{◌≤◌, length}
use Rattle.std.specs.List.{AllByRecursion}
use Rattle.message_codec.specs.declared.messages.Msg.{Msg}
use Rattle.message_codec.specs.Fields.{Field, Text, Fits}
use Rattle.message_codec.specs.Table.{fields}
use Rattle.message_codec.specs.Spelling.{body_of}
use Rattle.message_codec.specs.Streams.{AreBytes, body_limit}

-- a text is bytes
abbrev pub HasByteText : Field → Type 0
HasByteText (Text bytes) = AreBytes bytes
HasByteText _ = Unit {0}

-- its numbers are in the ranges of its fields, its texts are bytes, and its body is no longer than a
-- body may be
pub record IsWritable (m : Msg) : Type 0 where
  pub fits : AllByRecursion Fits (fields m)
  pub texts : AllByRecursion HasByteText (fields m)
  pub within : length (body_of m) ≤ body_limit
