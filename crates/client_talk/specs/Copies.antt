-- What the script copied and is still to be sent, and the messages that it is sent in.
use Rattle.std.specs.Prelude.{ℕ, List, [], ◌++◌, map, Option, Some, None}
use Rattle.share_base.specs.declared.clip_id.ClipId.{ClipId}
use Rattle.share_base.specs.declared.clip_id.ClipId.TheVariants.{Clipboard, Selection}
use Rattle.message_codec.specs.declared.clip_mark.ClipMark.TheVariants as mark
use Rattle.message_codec.specs.declared.messages.Msg.{Msg}
use Rattle.clip_chunks.specs.Parts.{part, message_of}
use Rattle.clip_chunks.specs.Sending.{parts_of, chunks_of}
use Rattle.client_talk.specs.declared.copies.Copies.{Copies}

-- nothing was copied
abbrev pub no_copies : Copies
no_copies = record { clipboard = None; selection = None }

abbrev pub copy_of : ClipId → Copies → Option (List ℕ)
copy_of Clipboard copies = copies.clipboard
copy_of Selection copies = copies.selection

abbrev pub with_copy : ClipId → Option (List ℕ) → Copies → Copies
with_copy Clipboard copy copies = record copies { clipboard = copy }
with_copy Selection copy copies = record copies { selection = copy }

-- ---- messages

-- the parts of a clipboard, all with that sequence
abbrev pub clip_messages : ClipId → ℕ → List ℕ → List Msg
clip_messages clip seq bytes = map message_of (parts_of clip seq bytes)

-- its bytes in chunks
abbrev pub chunk_messages : ClipId → ℕ → List ℕ → List Msg
chunk_messages clip seq bytes = map message_of (map (part mark.Chunk clip seq) (chunks_of bytes))

abbrev pub copy_messages : ClipId → ℕ → Option (List ℕ) → List Msg
copy_messages clip seq None = []
copy_messages clip seq (Some bytes) = clip_messages clip seq bytes

-- the clipboard first
abbrev pub copies_messages : ℕ → Copies → List Msg
copies_messages seq copies =
    copy_messages Clipboard seq copies.clipboard ++ copy_messages Selection seq copies.selection
