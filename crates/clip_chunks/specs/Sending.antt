-- How the bytes of a clipboard are cut into parts.
use Rattle.std.specs.Prelude.{◌≡◌, ℕ, ◌+◌, ◌<◌, ◌≤◌, zero, suc, List, [], ◌∷◌, ◌++◌, length, take}
use Rattle.std.specs.Prelude.{drop, map, codes}
use Rattle.std.specs.Int.{w32, to_be_bytes}
use Rattle.std.specs.Fmt.{decimal}
use Rattle.std.specs.List.{concat}
use Rattle.share_base.specs.declared.clip_id.ClipId.{ClipId}
use Rattle.share_base.specs.Clips.{clip_number}
use Rattle.message_codec.specs.declared.clip_mark.ClipMark.{ClipMark}
use Rattle.message_codec.specs.Marks.{mark_number}
use Rattle.message_codec.specs.Streams.{frame_of, frames_of}
use Rattle.clip_chunks.specs.Parts.{Part, part, run, message_of}
use Rattle.clip_chunks.specs.OpenRuns.{wholes_among}

-- at most n chunks of that size
abbrev pub cut_into : ℕ → ℕ → List ℕ → List (List ℕ)
cut_into size zero bytes = []
cut_into size (suc n) [] = []
cut_into size (suc n) (byte ∷ bytes) =
    take size (byte ∷ bytes) ∷ cut_into size n (drop size (byte ∷ bytes))

-- how many bytes a full chunk has
abbrev pub full_chunk : ℕ
full_chunk = 32768

-- full chunks, and what is left as the last one; no bytes are no chunk
abbrev pub chunks_of : List ℕ → List (List ℕ)
chunks_of bytes = cut_into full_chunk (length bytes) bytes

-- every chunk but the last is full, and the last one is not empty
abbrev pub AreFull : List (List ℕ) → Type 0
AreFull [] = Unit {0}
AreFull (last ∷ []) = (0 < length last) × (length last ≤ full_chunk)
AreFull (chunk ∷ next ∷ chunks) = (length chunk ≡ full_chunk) × AreFull (next ∷ chunks)

-- a start with the decimal length, the chunks, and an end without data
abbrev pub parts_of : ClipId → ℕ → List ℕ → List Part
parts_of clip seq bytes = run clip seq (decimal (length bytes)) (chunks_of bytes) []

-- the frame of a part before its own bytes
abbrev pub before_bytes : ClipId → ℕ → ClipMark → ℕ → List ℕ
before_bytes clip seq mark len =
    to_be_bytes w32 (14 + len)
    ++ (codes "DCLP"
    ++ (clip_number clip
    ∷ (to_be_bytes w32 seq ++ (mark_number mark ∷ to_be_bytes w32 len))))

-- the frame of the message of one part
abbrev pub part_frame : ClipMark → ClipId → ℕ → List ℕ → List ℕ
part_frame mark clip seq bytes = frame_of (message_of (part mark clip seq bytes))

-- the frames of the messages of parts
abbrev pub part_frames : List Part → List ℕ
part_frames parts = frames_of (map message_of parts)

abbrev pub clip_frames : ClipId → ℕ → List ℕ → List ℕ
clip_frames clip seq bytes = part_frames (parts_of clip seq bytes)

-- their messages hold one whole, of these bytes, for whoever takes as many
abbrev pub HoldsOne : ClipId → ℕ → List ℕ → Type 0
HoldsOne clip seq bytes =
    (limit : ℕ) → length bytes ≤ limit
    → wholes_among limit (map message_of (parts_of clip seq bytes))
    ≡ record { clip = clip; seq = seq; bytes = bytes } ∷ []

-- the bytes are cut once, into full chunks and a last one
abbrev pub IsCut : List ℕ → Type 0
IsCut bytes = (concat (chunks_of bytes) ≡ bytes) × AreFull (chunks_of bytes)
