-- The chunks of a clipboard, as a client is told them.
use Rattle.std.specs.Prelude.{ℕ, List}
use Rattle.share_base.specs.declared.clip_id.ClipId.{ClipId}
use Rattle.message_codec.specs.declared.clip_mark.ClipMark.TheVariants as mark
use Rattle.clip_chunks.specs.Parts.{part, message_of}
use Rattle.clip_chunks.specs.Sending.{chunks_of}
use Rattle.machine.specs.Targets.{Client, Own}
use Rattle.machine.specs.States.{State}
use Rattle.machine.specs.Combining.{for_each}
use Rattle.machine.specs.Routing.{route}

abbrev pub tell_chunk : ClipId → ℕ → List ℕ → State → State
tell_chunk clip serial chunk s =
    route Own (Client serial) (message_of (part mark.Chunk clip 0 chunk)) s

-- one after another
abbrev pub tell_chunks : ClipId → ℕ → List ℕ → State → State
tell_chunks clip serial bytes s = for_each (chunks_of bytes) (tell_chunk clip serial) s
