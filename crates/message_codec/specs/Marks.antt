-- The numbers of the parts of a clipboard.
use Rattle.std.specs.Prelude.{ℕ}
use Rattle.message_codec.specs.declared.clip_mark.ClipMark.{ClipMark}
use Rattle.message_codec.specs.declared.clip_mark.ClipMark.TheVariants as marks

abbrev pub mark_number : ClipMark → ℕ
mark_number marks.Start = 1
mark_number marks.Chunk = 2
mark_number marks.End = 3
