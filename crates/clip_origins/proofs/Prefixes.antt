-- More bytes bring more messages.
use Rattle.std.specs.Prelude.{◌≡◌, refl, ℕ, ◌+◌, Bool, true, false, ◌==◌, nat_lt, List, [], ◌∷◌, ◌++◌, length, drop, fold, Option, Some, None, Result, Ok, Err}
use Rattle.std.proofs.Common.{ap, sym, ◌∙◌, append_assoc}
use Rattle.std.proofs.lemmas.List.{append-nil}
use Rattle.std.proofs.lemmas.List.Sums.{fold-append}
use Rattle.std.proofs.Math.Seq.{drop-append_seam}
use Rattle.share_base.specs.declared.reason.Reason.{Reason}
use Rattle.wire_frames.specs.Framing.{length_field}
use Rattle.message_codec.specs.declared.messages.Msg.{Msg}
use Rattle.message_codec.specs.declared.faults.BadBody.{BadBody}
use Rattle.message_codec.specs.Streams.{Reader}
use Rattle.message_codec.specs.BodyVerdicts.{body_verdict}
use Rattle.message_codec.specs.Inboxes.{Inbox, empty_inbox, takes_if, takes_body, opens_if, limits_if, looks_if, looks, with_byte}
use Rattle.message_reader.specs.Roles.{server}
use Rattle.machine.specs.Steps.{inbox_of}

abbrev Goes : Inbox → Inbox → Type 0
Goes old new = (tail : List Msg) × (new.messages ≡ old.messages ++ tail)

none : (box : Inbox) → Goes box box
none box = ([], sym (append-nil box.messages))

taken_if : (b : Bool) (m : Msg) (box : Inbox) → Goes box (takes_if b m box)
taken_if true m box = (m ∷ [], refl)
taken_if false m box = none box

taken_body : (reader : Reader) (r : Result Msg BadBody) (box : Inbox) → Goes box (takes_body reader r box)
taken_body reader (Ok m) box = taken_if (reader.takes box.messages m) m box
taken_body reader (Err why) box = none box

opened_if : (reader : Reader) (b : Bool) (box : Inbox) → Goes box (opens_if reader b box)
opened_if reader true box = taken_body reader (body_verdict reader.from (drop 4 box.rest)) box
opened_if reader false box = none box

limited_if : (reader : Reader) (b : Bool) (box : Inbox) → Goes box (limits_if reader b box)
limited_if reader true box = none box
limited_if reader false box = opened_if reader (length box.rest == 4 + length_field box.rest) box

looked_if : (reader : Reader) (b : Bool) (box : Inbox) → Goes box (looks_if reader b box)
looked_if reader true box = none box
looked_if reader false box = limited_if reader (nat_lt (reader.limit box.messages) (length_field box.rest)) box

looked : (reader : Reader) (o : Option Reason) (box : Inbox) → Goes box (looks reader o box)
looked reader (Some why) box = none box
looked reader None box = looked_if reader (nat_lt (length box.rest) 4) box

byte-goes : (reader : Reader) (box : Inbox) (byte : ℕ) → Goes box (with_byte reader box byte)
byte-goes reader box byte = looked reader box.bad (record box { rest = box.rest ++ byte ∷ [] })

bytes-go : (reader : Reader) (box : Inbox) (bytes : List ℕ) → Goes box (fold (with_byte reader) box bytes)
bytes-go reader box [] = none box
bytes-go reader box (byte ∷ bytes) =
    let one = byte-goes reader box byte in
    let rest = bytes-go reader (with_byte reader box byte) bytes in
    (one.0 ++ rest.0, rest.1 ∙ (ap (λ (ms : List Msg). ms ++ rest.0) one.1 ∙ append_assoc box.messages one.0 rest.0))

-- the messages before, and those that the piece adds
pub added-messages : (bytes piece : List ℕ) → (inbox_of bytes).messages ++ drop (length (inbox_of bytes).messages) (inbox_of (bytes ++ piece)).messages ≡ (inbox_of (bytes ++ piece)).messages
added-messages bytes piece =
    let old : List Msg = (inbox_of bytes).messages in
    let more = bytes-go server (inbox_of bytes) piece in
    let all : (inbox_of (bytes ++ piece)).messages ≡ old ++ more.0 = ap (λ (box : Inbox). box.messages) (fold-append (with_byte server) empty_inbox bytes piece) ∙ more.1 in
    ap (λ (ms : List Msg). old ++ ms) (ap (drop (length old)) all ∙ drop-append_seam old more.0) ∙ sym all
