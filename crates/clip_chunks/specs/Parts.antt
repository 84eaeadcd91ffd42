-- The parts that a clipboard is sent in: a start that says its size, chunks of its bytes, and an
-- end.
use Rattle.std.specs.Prelude.{ℕ, Bool, ◌==◌, List, [], ◌∷◌, ◌++◌, map, filter, Option, Some, None}
use Rattle.std.specs.List.{filter_map}
use Rattle.share_base.specs.declared.clip_id.ClipId.{ClipId}
use Rattle.share_base.specs.Clips.{clip_number}
use Rattle.message_codec.specs.declared.clip_mark.ClipMark.{ClipMark}
use Rattle.message_codec.specs.declared.clip_mark.ClipMark.TheVariants as mark
use Rattle.message_codec.specs.declared.messages.Msg.{Msg}
use Rattle.message_codec.specs.declared.messages.Msg.TheVariants as msg

pub record Part : Type 0 where
  pub clip : ClipId
  pub seq : ℕ
  pub mark : ClipMark
  pub bytes : List ℕ

abbrev pub part : ClipMark → ClipId → ℕ → List ℕ → Part
part mark clip seq bytes = record { clip = clip; seq = seq; mark = mark; bytes = bytes }

-- a start with those digits, chunks with those bytes, and an end, whose bytes are ignored, all of
-- one clipboard and one sequence
abbrev pub run : ClipId → ℕ → List ℕ → List (List ℕ) → List ℕ → List Part
run clip seq digits chunks ignored =
    part mark.Start clip seq digits ∷ map (part mark.Chunk clip seq) chunks
    ++ part mark.End clip seq ignored ∷ []

-- ---- messages

abbrev pub message_of : Part → Msg
message_of p = msg.ClipPart p.clip p.seq p.mark p.bytes

abbrev pub part_of : Msg → Option Part
part_of (msg.ClipPart clip seq mark bytes) = Some (part mark clip seq bytes)
part_of _ = None

-- the parts among messages, in their order
abbrev pub parts_among : List Msg → List Part
parts_among messages = filter_map part_of messages

-- ---- one clipboard's

abbrev pub same_clip : ClipId → ClipId → Bool
same_clip a b = clip_number a == clip_number b

abbrev pub of_clip : ClipId → List Part → List Part
of_clip clip parts = filter (λ p. same_clip clip p.clip) parts
