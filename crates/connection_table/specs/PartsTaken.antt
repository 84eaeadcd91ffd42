-- What a part of a clipboard does to one connection.
use Rattle.std.specs.Prelude.{◌≡◌, ℕ, List, ◌∷◌, Option}
use Rattle.share_base.specs.declared.clip_id.ClipId.{ClipId}
use Rattle.share_base.specs.declared.clip_id.ClipId.TheVariants.{Clipboard, Selection}
use Rattle.message_codec.specs.declared.clip_mark.ClipMark.{ClipMark}
use Rattle.clip_chunks.specs.Parts.{Part, part}
use Rattle.clip_chunks.specs.OpenRuns.{whole_at}
use Rattle.clip_chunks.specs.Assemblies.{AssemblyParts, StandsFor}
use Rattle.connection_table.specs.declared.connection.Connection.{Connection}

-- where its clipboard is put together
abbrev pub assembly_of : ClipId → Connection → AssemblyParts
assembly_of Clipboard c = c.clipboard
assembly_of Selection c = c.selection

abbrev pub with_assembly : ClipId → AssemblyParts → Connection → Connection
with_assembly Clipboard a c = record c { clipboard = a }
with_assembly Selection a c = record c { selection = a }

-- whatever parts came before, it is the newest of them, and the answer is the whole that it ends
pub record TakesPart (clip : ClipId) (seq : ℕ) (mark : ClipMark) (bytes : List ℕ)
    (whole : Option (List ℕ)) (old new : Connection) : Type 0 where
  pub found : (limit : ℕ) (older : List Part) → StandsFor limit clip (assembly_of clip old) older
      → whole ≡ whole_at limit (part mark clip seq bytes) older
  pub takes : (limit : ℕ) (older : List Part) → StandsFor limit clip (assembly_of clip old) older
      → StandsFor limit clip (assembly_of clip new) (part mark clip seq bytes ∷ older)
  pub rest : new ≡ with_assembly clip (assembly_of clip new) old
