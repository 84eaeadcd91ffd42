-- The lines of a client are in the ranges of their fields, since the messages that it heard are.
use Rattle.std.proofs.Common.{ℕ, ◌^◌, ◌<◌, List, [], ◌∷◌, ◌++◌, map, subst, Option, Some, None}
use Rattle.std.specs.Prelude.{fold, IfSome}
use Rattle.std.specs.List.{AllByRecursion}
use Rattle.message_codec.specs.declared.messages.Msg.{Msg}
use Rattle.message_codec.specs.declared.messages.Msg.TheVariants as msg
use Rattle.message_codec.specs.Fields as field
use Rattle.message_codec.specs.Table.{fields}
use Rattle.message_codec.specs.Streams.{AreBytes, Reader, AllGood}
use Rattle.message_codec.specs.Verdicts.{Verdict}
use Rattle.message_codec.specs.declared.clip_mark.ClipMark.{ClipMark}
use Rattle.share_base.specs.declared.clip_id.ClipId.{ClipId}
use Rattle.clip_chunks.specs.Parts.{part}
use Rattle.clip_chunks.specs.OpenRuns.{whole_of, whole_at}
use Rattle.held_inputs.specs.declared.line.Line.TheVariants as line
use Rattle.held_inputs.specs.Ranges.{Fits}
use Rattle.held_inputs.specs.Down.{releases}
use Rattle.held_inputs.specs.Screen.{applied}
use Rattle.held_inputs.proofs.LineRanges.{fit-append}
use Rattle.held_inputs.proofs.MessageLines.{fit-applied, fit-releases}
use Rattle.client_core.specs.declared.clipboards.TheConstants.{CLIP_LIMIT}
use Rattle.client_core.specs.Clipboards.{whole_line}
use Rattle.client_core.specs.Hearing.{Display, option_lines, heard, fresh, client, all_lines}
use Rattle.client_core.proofs.PartBytes.{ArePartBytes, HasBytes, whole-bytes, have-bytes}

-- its fields are in their ranges, and so are the bytes of a part
pub record MessageFits (m : Msg) : Type 0 where
  pub fields : AllByRecursion field.Fits (fields m)
  pub bytes : HasBytes m

fit-options : (words : List ℕ) → AllByRecursion (λ n. n < 2 ^ 32) words → AllByRecursion Fits (option_lines words)
fit-options [] all = tt
fit-options (code ∷ []) all = tt
fit-options (code ∷ value ∷ words) all = ((all.0, all.1.0), fit-options words all.1.1)

fit-part : (clip : ClipId) (seq : ℕ) (m : ClipMark) (bytes : List ℕ) (whole : Option (List ℕ)) → IfSome whole AreBytes → AllByRecursion Fits (map whole_line (whole_of (part m clip seq bytes) whole))
fit-part clip seq m bytes None small = tt
fit-part clip seq m bytes (Some all) small = (small, tt)

fit-heard : (d : Display) (m : Msg) → AllByRecursion Fits d.screen.lines → ArePartBytes d.parts → MessageFits m → AllByRecursion Fits (heard d m).screen.lines
fit-heard d msg.ResetOptions all parts f = fit-append d.screen.lines (line.ResetOptions ∷ []) all (tt, tt)
fit-heard d (msg.SetOptions words) all parts f = fit-append d.screen.lines (option_lines words) all (fit-options words f.fields.0.1)
fit-heard d (msg.Grab clip seq) all parts f = fit-append d.screen.lines (line.Grab clip ∷ []) all (tt, tt)
fit-heard d (msg.ClipPart clip seq mark bytes) all parts f =
    let whole = whole_at CLIP_LIMIT (part mark clip seq bytes) d.parts in
    fit-append d.screen.lines (map whole_line (whole_of (part mark clip seq bytes) whole)) all (fit-part clip seq mark bytes whole (whole-bytes CLIP_LIMIT clip seq mark bytes d.parts parts))
fit-heard d m all parts f = fit-append d.screen.lines (applied d.screen m) all (fit-applied d.screen m all f.fields)

parts-heard : (d : Display) (m : Msg) → ArePartBytes d.parts → MessageFits m → ArePartBytes (heard d m).parts
parts-heard d (msg.ClipPart clip seq mark bytes) parts f = (f.bytes, parts)
parts-heard d m parts f = parts

fit-client : (messages : List Msg) → AllByRecursion MessageFits messages → AllByRecursion Fits (client messages).lines
fit-client messages = from fresh messages tt tt
  where
    from : (d : Display) (ms : List Msg) → AllByRecursion Fits d.screen.lines → ArePartBytes d.parts → AllByRecursion MessageFits ms → AllByRecursion Fits (fold heard d ms).screen.lines
    from d [] all parts f = all
    from d (m ∷ ms) all parts f = from (heard d m) ms (fit-heard d m all parts f.0) (parts-heard d m parts f.0) f.1

-- messages that a reader takes of a stream of bytes are in their ranges
pub messages-fit : (reader : Reader) (stream : List ℕ) (v : Verdict reader stream) → AreBytes stream → AllByRecursion MessageFits v.messages
messages-fit reader stream v small =
    both [] v.messages v.good (have-bytes v.messages v.rest (subst AreBytes v.stream_is small))
  where
    both : (before ms : List Msg) → AllGood reader before ms → AllByRecursion HasBytes ms → AllByRecursion MessageFits ms
    both before [] good bytes = tt
    both before (m ∷ ms) good bytes = (record { fields = good.0.spelled.fits; bytes = bytes.0 }, both (before ++ m ∷ []) ms good.1 bytes.1)

-- so all lines of a client that heard such messages, with those of its end, have one reading
pub fit-all_lines : (messages : List Msg) → AllByRecursion MessageFits messages → AllByRecursion Fits (all_lines messages)
fit-all_lines messages f =
    let lines = fit-client messages f in
    fit-append (client messages).lines (releases (client messages).lines) lines (fit-releases (client messages).lines lines)
