-- The table of messages: what each begins with, who sends it, and its fields.
use Rattle.std.specs.Prelude.{◌≡◌, ℕ, Bool, true, false, List, [], ◌∷◌, codes}
use Rattle.std.specs.List.{list_any}
use Rattle.share_base.specs.Clips.{clip_number}
use Rattle.message_codec.specs.declared.messages.End.{End}
use Rattle.message_codec.specs.declared.messages.End.TheVariants as ends
use Rattle.message_codec.specs.declared.messages.Msg.{Msg}
use Rattle.message_codec.specs.declared.messages.Msg.TheVariants as msg
use Rattle.message_codec.specs.declared.coding.Code.{Code}
use Rattle.message_codec.specs.declared.coding.Code.TheVariants as code
use Rattle.message_codec.specs.Marks.{mark_number}
use Rattle.message_codec.specs.Kinds.{Kind}
use Rattle.message_codec.specs.Kinds as kind
use Rattle.message_codec.specs.Fields.{Field, Byte, Half, Signed, Word, Clip, Mark, Text, Words}

-- who sends a message
pub data Sender : Type 0 where
  server : Sender
  client : Sender
  both : Sender

pub record Row : Type 0 where
  pub text : List ℕ
  pub sender : Sender
  pub kinds : List Kind

abbrev row_of : List ℕ → Sender → List Kind → Row
row_of text sender kinds = record { text = text; sender = sender; kinds = kinds }

abbrev pub row : Code → Row
row code.Hello = row_of (codes "Synergy") server (kind.half ∷ kind.half ∷ [])
row code.HelloBack = row_of (codes "Synergy") client (kind.half ∷ kind.half ∷ kind.text ∷ [])
row code.QueryInfo = row_of (codes "QINF") server []
row code.InfoAck = row_of (codes "CIAK") server []
row code.ResetOptions = row_of (codes "CROP") server []
row code.Bye = row_of (codes "CBYE") server []
row code.Enter =
    row_of (codes "CINN") server (kind.signed ∷ kind.signed ∷ kind.word ∷ kind.half ∷ [])
row code.Leave = row_of (codes "COUT") server []
row code.Saver = row_of (codes "CSEC") server (kind.byte ∷ [])
row code.SetOptions = row_of (codes "DSOP") server (kind.words ∷ [])
row code.KeyDown = row_of (codes "DKDN") server (kind.half ∷ kind.half ∷ kind.half ∷ [])
row code.KeyRepeat =
    row_of (codes "DKRP") server (kind.half ∷ kind.half ∷ kind.half ∷ kind.half ∷ [])
row code.KeyUp = row_of (codes "DKUP") server (kind.half ∷ kind.half ∷ kind.half ∷ [])
row code.ButtonDown = row_of (codes "DMDN") server (kind.byte ∷ [])
row code.ButtonUp = row_of (codes "DMUP") server (kind.byte ∷ [])
row code.MoveTo = row_of (codes "DMMV") server (kind.signed ∷ kind.signed ∷ [])
row code.MoveBy = row_of (codes "DMRM") server (kind.signed ∷ kind.signed ∷ [])
row code.Wheel = row_of (codes "DMWM") server (kind.signed ∷ kind.signed ∷ [])
row code.BadVersion = row_of (codes "EICV") server (kind.half ∷ kind.half ∷ [])
row code.Busy = row_of (codes "EBSY") server []
row code.Unknown = row_of (codes "EUNK") server []
row code.Malformed = row_of (codes "EBAD") server []
row code.Noop = row_of (codes "CNOP") client []
row code.Info =
    row_of (codes "DINF") client
    (kind.signed ∷ kind.signed ∷ kind.half ∷ kind.half ∷ kind.half ∷ kind.signed ∷ kind.signed ∷ [])
row code.Alive = row_of (codes "CALV") both []
row code.Grab = row_of (codes "CCLP") both (kind.clip ∷ kind.word ∷ [])
row code.ClipPart = row_of (codes "DCLP") both (kind.clip ∷ kind.word ∷ kind.mark ∷ kind.text ∷ [])
row code.FilePart = row_of (codes "DFTR") both (kind.byte ∷ kind.text ∷ [])
row code.DragInfo = row_of (codes "DDRG") both (kind.half ∷ kind.text ∷ [])

-- a message's code, and its fields in the order of the row
abbrev pub parts : Msg → Code × List Field
parts (msg.Hello major minor) = (code.Hello, Half major ∷ Half minor ∷ [])
parts (msg.HelloBack major minor name) = (code.HelloBack, Half major ∷ Half minor ∷ Text name ∷ [])
parts msg.QueryInfo = (code.QueryInfo, [])
parts msg.InfoAck = (code.InfoAck, [])
parts msg.ResetOptions = (code.ResetOptions, [])
parts msg.Bye = (code.Bye, [])
parts (msg.Enter x y seq mask) = (code.Enter, Signed x ∷ Signed y ∷ Word seq ∷ Half mask ∷ [])
parts msg.Leave = (code.Leave, [])
parts (msg.Saver on) = (code.Saver, Byte on ∷ [])
parts (msg.SetOptions words) = (code.SetOptions, Words words ∷ [])
parts (msg.KeyDown id mask button) = (code.KeyDown, Half id ∷ Half mask ∷ Half button ∷ [])
parts (msg.KeyRepeat id mask count button) =
    (code.KeyRepeat, Half id ∷ Half mask ∷ Half count ∷ Half button ∷ [])
parts (msg.KeyUp id mask button) = (code.KeyUp, Half id ∷ Half mask ∷ Half button ∷ [])
parts (msg.ButtonDown b) = (code.ButtonDown, Byte b ∷ [])
parts (msg.ButtonUp b) = (code.ButtonUp, Byte b ∷ [])
parts (msg.MoveTo x y) = (code.MoveTo, Signed x ∷ Signed y ∷ [])
parts (msg.MoveBy dx dy) = (code.MoveBy, Signed dx ∷ Signed dy ∷ [])
parts (msg.Wheel dx dy) = (code.Wheel, Signed dx ∷ Signed dy ∷ [])
parts (msg.BadVersion major minor) = (code.BadVersion, Half major ∷ Half minor ∷ [])
parts msg.Busy = (code.Busy, [])
parts msg.Unknown = (code.Unknown, [])
parts msg.Malformed = (code.Malformed, [])
parts msg.Noop = (code.Noop, [])
parts (msg.Info x y w h warp mx my) =
    (code.Info, Signed x ∷ Signed y ∷ Half w ∷ Half h ∷ Half warp ∷ Signed mx ∷ Signed my ∷ [])
parts msg.Alive = (code.Alive, [])
parts (msg.Grab clip seq) = (code.Grab, Clip (clip_number clip) ∷ Word seq ∷ [])
parts (msg.ClipPart clip seq mark bytes) =
    (code.ClipPart, Clip (clip_number clip) ∷ Word seq ∷ Mark (mark_number mark) ∷ Text bytes ∷ [])
parts (msg.FilePart mark bytes) = (code.FilePart, Byte mark ∷ Text bytes ∷ [])
parts (msg.DragInfo count bytes) = (code.DragInfo, Half count ∷ Text bytes ∷ [])

-- ---- what the rows say

-- what bodies begin with
abbrev pub text : Code → List ℕ
text c = (row c).text

abbrev pub kinds : Code → List Kind
kinds c = (row c).kinds

-- whether fields of that kind are copied into memory of their own: strings and lists
abbrev pub is_list : Kind → Bool
is_list kind.text = true
is_list kind.words = true
is_list kind.byte = false
is_list kind.half = false
is_list kind.signed = false
is_list kind.word = false
is_list kind.clip = false
is_list kind.mark = false

-- whether the row has a string or a list
abbrev pub has_list : Code → Bool
has_list c = list_any is_list (kinds c)

abbrev pub Sends : Sender → End → Type 0
Sends server end = end ≡ ends.Server
Sends client end = end ≡ ends.Client
Sends both end = Unit {0}

abbrev pub SentBy : Code → End → Type 0
SentBy c end = Sends (row c).sender end

abbrev pub code_of : Msg → Code
code_of m = (parts m).0

abbrev pub fields : Msg → List Field
fields m = (parts m).1
