-- A field, apart from where it lies in memory.
use Rattle.message_codec.specs.declared.fields.FieldRef.{FieldRef}
use Rattle.message_codec.specs.declared.fields.FieldRef.TheVariants as ref
use Rattle.message_codec.specs.Fields.{Field, Byte, Half, Signed, Word, Clip, Mark, Text, Words}

abbrev pub seen : FieldRef → Field
seen (ref.Byte n) = Byte n
seen (ref.Half n) = Half n
seen (ref.Signed z) = Signed z
seen (ref.Word n) = Word n
seen (ref.Clip n) = Clip n
seen (ref.Mark n) = Mark n
seen (ref.Text bytes) = Text bytes.now
seen (ref.Words ns) = Words ns.now
