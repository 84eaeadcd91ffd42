-- The lines that tell the bytes of clipboards, and what a client keeps of the parts that came.
use Rattle.std.specs.Prelude.{◌≡◌, ℕ, ◌+◌, ◌*◌, Bool, true, false, List, ◌∷◌, map, filter, length, Option}
use Rattle.share_base.specs.declared.clip_id.ClipId.{ClipId}
use Rattle.share_base.specs.declared.clip_id.ClipId.TheVariants.{Clipboard, Selection}
use Rattle.message_codec.specs.declared.clip_mark.ClipMark.{ClipMark}
use Rattle.message_codec.specs.declared.clip_mark.ClipMark.TheVariants as mark
use Rattle.message_codec.specs.declared.messages.Msg.{Msg}
use Rattle.clip_chunks.specs.Parts.{Part}
use Rattle.clip_chunks.specs.OpenRuns.{Whole, whole_of, whole_at, wholes_among}
use Rattle.clip_chunks.specs.Assemblies.{AssemblyParts, StandsFor, bytes_so_far}
use Rattle.held_inputs.specs.declared.line.Line.{Line}
use Rattle.held_inputs.specs.declared.line.Line.TheVariants as line
use Rattle.client_core.specs.declared.clipboards.Clipboards.{Clipboards}
use Rattle.client_core.specs.declared.clipboards.TheConstants.{CLIP_LIMIT}

-- ---- lines

abbrev pub whole_line : Whole → Line
whole_line w = line.Clip w.clip w.bytes

-- a line for the whole that a part ends, where it ends one. The older parts, of both clipboards,
-- stand the newest first
abbrev pub part_lines : Part → List Part → List Line
part_lines p older = map whole_line (whole_of p (whole_at CLIP_LIMIT p older))

abbrev pub tells_bytes : Line → Bool
tells_bytes (line.Clip clip bytes) = true
tells_bytes _ = false

-- those of the lines that tell the bytes of a clipboard are one for each whole among the messages,
-- in the order of their ends
abbrev pub TellWholes : List Line → List Msg → Type 0
TellWholes lines messages =
    filter tells_bytes lines ≡ map whole_line (wholes_among CLIP_LIMIT messages)

-- ---- what is kept

abbrev pub assembly_of : ClipId → Clipboards → AssemblyParts
assembly_of Clipboard k = k.clipboard
assembly_of Selection k = k.selection

-- the assembly of each clipboard has what is on its way after these parts, the newest first
pub record AreFor (k : Clipboards) (parts : List Part) : Type 0 where
  pub clipboard : StandsFor CLIP_LIMIT Clipboard k.clipboard parts
  pub selection : StandsFor CLIP_LIMIT Selection k.selection parts

-- whatever parts they had, they have one more, and it ends that whole, or none
pub record Brings (old new : Clipboards) (p : Part) (whole : Option (List ℕ)) : Type 0 where
  pub stands : (parts : List Part) → AreFor old parts → AreFor new (p ∷ parts)
  pub gives : (parts : List Part) → AreFor old parts → whole ≡ whole_at CLIP_LIMIT p parts

-- the most bytes of the line that a part brings
abbrev pub room_for : ClipId → ClipMark → Clipboards → ℕ
room_for clip mark.Start k = 0
room_for clip mark.Chunk k = 0
room_for clip mark.End k = 2 * length (bytes_so_far (assembly_of clip k).run) + 13
