-- Where a piece that is written may end before its time: at the borders of the data of full chunks.
use Rattle.std.specs.Prelude.{ℕ, ◌+◌, ◌-◌, Bool, false, ◌==◌, if◌then◌else◌, List, [], ◌∷◌, ◌++◌, length}
use Rattle.message_codec.specs.declared.messages.Msg.{Msg}
use Rattle.message_codec.specs.declared.messages.Msg.TheVariants as msg
use Rattle.message_codec.specs.declared.clip_mark.ClipMark.TheVariants as mark
use Rattle.message_codec.specs.Streams.{frame_of}
use Rattle.machine.specs.Targets.{Entry}
use Rattle.machine.specs.Queues.{queued_messages}

-- how many bytes a full chunk has
abbrev pub full_data : ℕ
full_data = 32768

abbrev pub is_full_chunk : Msg → Bool
is_full_chunk (msg.ClipPart clip seq mark.Chunk bytes) = length bytes == full_data
is_full_chunk m = false

-- the data of a full chunk stand at the end of its frame, which ends there
abbrev pub borders_at : Msg → ℕ → List ℕ
borders_at m end = if is_full_chunk m then (end - full_data) ∷ end ∷ [] else []

-- the frames of these messages begin after that many bytes
abbrev pub borders_from : ℕ → List Msg → List ℕ
borders_from at [] = []
borders_from at (m ∷ ms) =
    borders_at m (at + length (frame_of m)) ++ borders_from (at + length (frame_of m)) ms

-- the borders in a connection's queue, as numbers of bytes before them
abbrev pub borders : List Entry → ℕ → List ℕ
borders routed serial = borders_from 0 (queued_messages routed serial)
