-- The whole that a part ends, by the run of parts that was open before it.
use Rattle.std.specs.Prelude.{ℕ, ◌+◌, ◌&&◌, ◌==◌, nat_le, List, [], ◌∷◌, ◌++◌, length, reverse}
use Rattle.std.specs.Prelude.{Option, Some, None, if◌then◌else◌}
use Rattle.share_base.specs.declared.clip_id.ClipId.{ClipId}
use Rattle.message_codec.specs.declared.clip_mark.ClipMark.{ClipMark}
use Rattle.message_codec.specs.declared.clip_mark.ClipMark.TheVariants as mark
use Rattle.message_codec.specs.declared.messages.Msg.{Msg}
use Rattle.clip_chunks.specs.declared.run.Run.{Run}
use Rattle.clip_chunks.specs.Parts.{Part, of_clip, parts_among}
use Rattle.clip_chunks.specs.Wholes.{size_of}

-- what a start opens
abbrev pub opens : ℕ → ℕ → Option ℕ → Option Run
opens limit seq None = None
opens limit seq (Some size) =
    if nat_le size limit then Some (record { seq = seq; size = size; bytes = [] }) else None

-- with more bytes of its sequence a run goes on, up to its size
abbrev pub goes_on : ℕ → List ℕ → Option Run → Option Run
goes_on seq bytes None = None
goes_on seq bytes (Some r) =
    if (r.seq == seq) && nat_le (length r.bytes + length bytes) r.size
    then Some (record { seq = r.seq; size = r.size; bytes = r.bytes ++ bytes }) else None

-- the run after one more part
abbrev pub run_after : ℕ → ClipMark → ℕ → List ℕ → Option Run → Option Run
run_after limit mark.Start seq bytes r = opens limit seq (size_of bytes)
run_after limit mark.Chunk seq bytes r = goes_on seq bytes r
run_after limit mark.End seq bytes r = None

-- the run that is open after these parts of one clipboard, the newest first
abbrev pub open_run : ℕ → List Part → Option Run
open_run limit [] = None
open_run limit (p ∷ older) = run_after limit p.mark p.seq p.bytes (open_run limit older)

-- the bytes of a run that an end of that sequence closes, where they are all there
abbrev pub closes : ℕ → Option Run → Option (List ℕ)
closes seq None = None
closes seq (Some r) = if (r.seq == seq) && (length r.bytes == r.size) then Some r.bytes else None

abbrev pub whole_by : ClipMark → ℕ → Option Run → Option (List ℕ)
whole_by mark.Start seq r = None
whole_by mark.Chunk seq r = None
whole_by mark.End seq r = closes seq r

-- the bytes of the whole that the newest part ends, where it ends one. The older parts, of both
-- clipboards, stand the newest first
abbrev pub whole_at : ℕ → Part → List Part → Option (List ℕ)
whole_at limit newest older =
    whole_by newest.mark newest.seq (open_run limit (of_clip newest.clip older))

-- ---- all of them

pub record Whole : Type 0 where
  pub clip : ClipId
  pub seq : ℕ
  pub bytes : List ℕ

abbrev pub whole_of : Part → Option (List ℕ) → List Whole
whole_of p None = []
whole_of p (Some bytes) = record { clip = p.clip; seq = p.seq; bytes = bytes } ∷ []

-- the wholes of both clipboards, in the order of their ends, among parts that stand the newest
-- first
abbrev pub wholes : ℕ → List Part → List Whole
wholes limit [] = []
wholes limit (p ∷ older) = wholes limit older ++ whole_of p (whole_at limit p older)

-- the whole that one more part brings, if it is a part
abbrev pub brought : ℕ → Option Part → List Part → List Whole
brought limit None older = []
brought limit (Some p) older = whole_of p (whole_at limit p older)

-- those among messages, which stand the oldest first
abbrev pub wholes_among : ℕ → List Msg → List Whole
wholes_among limit messages = wholes limit (reverse (parts_among messages))
