-- The message of a code and its fields.
use Rattle.std.specs.Prelude.{ℕ, zero, suc, ℤ, pos, List, [], slice_index_or}
use Rattle.share_base.specs.declared.clip_id.ClipId.{ClipId}
use Rattle.share_base.specs.declared.clip_id.ClipId.TheVariants as clips
use Rattle.message_codec.specs.declared.clip_mark.ClipMark.{ClipMark}
use Rattle.message_codec.specs.declared.clip_mark.ClipMark.TheVariants as marks
use Rattle.message_codec.specs.declared.messages.Msg.{Msg}
use Rattle.message_codec.specs.declared.messages.Msg.TheVariants as msg
use Rattle.message_codec.specs.declared.coding.Code.{Code}
use Rattle.message_codec.specs.declared.coding.Code.TheVariants as code
use Rattle.message_codec.specs.Fields.{Field, Byte, Half, Signed, Word, Clip, Mark, Text, Words}

unfoldable pub the_signed : Field → ℤ
the_signed (Signed z) = z
the_signed f = pos 0

unfoldable pub the_number : Field → ℕ
the_number (Byte n) = n
the_number (Half n) = n
the_number (Word n) = n
the_number (Clip n) = n
the_number (Mark n) = n
the_number f = 0

unfoldable pub the_list : Field → List ℕ
the_list (Text bytes) = bytes
the_list (Words ns) = ns
the_list f = []

unfoldable pub clip_of : ℕ → ClipId
clip_of zero = clips.Clipboard
clip_of (suc n) = clips.Selection

unfoldable pub mark_of : ℕ → ClipMark
mark_of zero = marks.Start
mark_of (suc zero) = marks.Start
mark_of (suc (suc zero)) = marks.Chunk
mark_of (suc (suc (suc n))) = marks.End

unfoldable pub field_at : List Field → ℕ → Field
field_at fs i = slice_index_or fs i (Byte 0)

-- the message of a code and fields
unfoldable pub built : Code → List Field → Msg
built code.Hello fs = msg.Hello (the_number (field_at fs 0)) (the_number (field_at fs 1))
built code.HelloBack fs =
    msg.HelloBack (the_number (field_at fs 0)) (the_number (field_at fs 1))
    (the_list (field_at fs 2))
built code.QueryInfo fs = msg.QueryInfo
built code.InfoAck fs = msg.InfoAck
built code.ResetOptions fs = msg.ResetOptions
built code.Bye fs = msg.Bye
built code.Enter fs =
    msg.Enter (the_signed (field_at fs 0)) (the_signed (field_at fs 1)) (the_number (field_at fs 2))
    (the_number (field_at fs 3))
built code.Leave fs = msg.Leave
built code.Saver fs = msg.Saver (the_number (field_at fs 0))
built code.SetOptions fs = msg.SetOptions (the_list (field_at fs 0))
built code.KeyDown fs =
    msg.KeyDown (the_number (field_at fs 0)) (the_number (field_at fs 1))
    (the_number (field_at fs 2))
built code.KeyRepeat fs =
    msg.KeyRepeat (the_number (field_at fs 0)) (the_number (field_at fs 1))
    (the_number (field_at fs 2)) (the_number (field_at fs 3))
built code.KeyUp fs =
    msg.KeyUp (the_number (field_at fs 0)) (the_number (field_at fs 1)) (the_number (field_at fs 2))
built code.ButtonDown fs = msg.ButtonDown (the_number (field_at fs 0))
built code.ButtonUp fs = msg.ButtonUp (the_number (field_at fs 0))
built code.MoveTo fs = msg.MoveTo (the_signed (field_at fs 0)) (the_signed (field_at fs 1))
built code.MoveBy fs = msg.MoveBy (the_signed (field_at fs 0)) (the_signed (field_at fs 1))
built code.Wheel fs = msg.Wheel (the_signed (field_at fs 0)) (the_signed (field_at fs 1))
built code.BadVersion fs = msg.BadVersion (the_number (field_at fs 0)) (the_number (field_at fs 1))
built code.Busy fs = msg.Busy
built code.Unknown fs = msg.Unknown
built code.Malformed fs = msg.Malformed
built code.Noop fs = msg.Noop
built code.Info fs =
    msg.Info (the_signed (field_at fs 0)) (the_signed (field_at fs 1)) (the_number (field_at fs 2))
    (the_number (field_at fs 3)) (the_number (field_at fs 4)) (the_signed (field_at fs 5))
    (the_signed (field_at fs 6))
built code.Alive fs = msg.Alive
built code.Grab fs = msg.Grab (clip_of (the_number (field_at fs 0))) (the_number (field_at fs 1))
built code.ClipPart fs =
    msg.ClipPart (clip_of (the_number (field_at fs 0))) (the_number (field_at fs 1))
    (mark_of (the_number (field_at fs 2))) (the_list (field_at fs 3))
built code.FilePart fs = msg.FilePart (the_number (field_at fs 0)) (the_list (field_at fs 1))
built code.DragInfo fs = msg.DragInfo (the_number (field_at fs 0)) (the_list (field_at fs 1))
