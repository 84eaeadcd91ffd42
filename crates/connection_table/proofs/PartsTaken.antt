-- A part of one clipboard, and the other clipboard beside it.
use Rattle.std.specs.Prelude.{refl, ℕ, List}
use Rattle.share_base.specs.declared.clip_id.ClipId.TheVariants.{Clipboard, Selection}
use Rattle.message_codec.specs.declared.clip_mark.ClipMark.{ClipMark}
use Rattle.clip_chunks.specs.declared.took.Took.{Took}
use Rattle.clip_chunks.specs.Assemblies.{AssemblyParts, Answers, Takes, whole_in}
use Rattle.connection_table.specs.declared.connection.Connection.{Connection}
use Rattle.connection_table.specs.PartsTaken.{TakesPart}

pub takes-clipboard : (k : Connection) (a : AssemblyParts) (seq : ℕ) (mark : ClipMark) (bytes : List ℕ) (took : Took) → Answers k.clipboard mark seq bytes took → Takes k.clipboard a mark seq bytes → TakesPart Clipboard seq mark bytes (whole_in took) k (record k { clipboard = a })
takes-clipboard k a seq mark bytes took answers takes = record {
  found = λ limit older h. (answers limit Clipboard older h).found;
  takes = λ limit older h. takes limit Clipboard older h;
  rest = refl;
}

pub takes-selection : (k : Connection) (a : AssemblyParts) (seq : ℕ) (mark : ClipMark) (bytes : List ℕ) (took : Took) → Answers k.selection mark seq bytes took → Takes k.selection a mark seq bytes → TakesPart Selection seq mark bytes (whole_in took) k (record k { selection = a })
takes-selection k a seq mark bytes took answers takes = record {
  found = λ limit older h. (answers limit Selection older h).found;
  takes = λ limit older h. takes limit Selection older h;
  rest = refl;
}
