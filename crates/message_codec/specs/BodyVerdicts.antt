-- The verdict on a body, as an answer: the message that it spells, or why it spells none.
use Rattle.std.specs.Prelude.{ℕ, ◌-◌, Bool, true, false, List, [], ◌∷◌, length, drop, position}
use Rattle.std.specs.Prelude.{Option, Some, None, Result, Ok, Err, if◌then◌else◌}
use Rattle.std.specs.Option.{option_map, option_or}
use Rattle.message_codec.specs.declared.messages.End.{End}
use Rattle.message_codec.specs.declared.messages.End.TheVariants as ends
use Rattle.message_codec.specs.declared.messages.Msg.{Msg}
use Rattle.message_codec.specs.declared.coding.Code.{Code}
use Rattle.message_codec.specs.declared.faults.BadBody.{BadBody}
use Rattle.message_codec.specs.declared.faults.BadBody.TheVariants as bad
use Rattle.message_codec.specs.Codes.{code_at}
use Rattle.message_codec.specs.Fields.{Field}
use Rattle.message_codec.specs.Table.{Sender, server, client, both, row, text, kinds}
use Rattle.message_codec.specs.Reading.{Read, read_fields}
use Rattle.message_codec.specs.Spelling.{Spells}
use Rattle.message_codec.specs.Refusals.{Refuses, is_bad_clip, is_bad_mark, place_of}
use Rattle.message_codec.specs.Messages.{built}

-- a field out of range: the first clipboard, or else the first mark
abbrev pub clip_fault : Code → List Field → Option BadBody
clip_fault c fs = option_map (λ i. bad.BadClip (place_of c fs i)) (position is_bad_clip fs)

abbrev pub mark_fault : Code → List Field → Option BadBody
mark_fault c fs = option_map (λ i. bad.BadMark (place_of c fs i)) (position is_bad_mark fs)

abbrev pub unless_fault : Option BadBody → Msg → Result Msg BadBody
unless_fault None m = Ok m
unless_fault (Some why) m = Err why

-- by what was read of the fields, and what is left after them
abbrev pub fields_verdict : Code → List ℕ → Read (List Field) → Result Msg BadBody
fields_verdict c body (Err left) = Err (bad.Short (length body - left))
fields_verdict c body (Ok (fs, byte ∷ left)) =
    Err (bad.Trailing (length body - length (byte ∷ left)))
fields_verdict c body (Ok (fs, [])) =
    unless_fault (option_or (clip_fault c fs) (mark_fault c fs)) (built c fs)

abbrev pub sends : Sender → End → Bool
sends server ends.Server = true
sends server ends.Client = false
sends client ends.Server = false
sends client ends.Client = true
sends both from = true

abbrev pub code_verdict : End → List ℕ → Option Code → Result Msg BadBody
code_verdict from body None = Err bad.UnknownCode
code_verdict from body (Some c) =
    if sends (row c).sender from
    then fields_verdict c body (read_fields (kinds c) (drop (length (text c)) body))
    else Err bad.WrongEnd

-- of a body that this end sent
unfoldable pub body_verdict : End → List ℕ → Result Msg BadBody
body_verdict from body = code_verdict from body (code_at from body)

-- the answer is right
abbrev pub IsVerdictOn : End → List ℕ → Result Msg BadBody → Type 0
IsVerdictOn from body (Ok m) = Spells from m body
IsVerdictOn from body (Err why) = Refuses why from body
