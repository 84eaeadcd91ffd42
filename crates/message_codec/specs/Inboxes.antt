-- What the bytes of a stream come to, byte by byte: its messages, and the first bad frame after
-- them or a rest.
use Rattle.std.specs.Prelude.{◌≡◌, ℕ, ◌+◌, Bool, true, false, ◌==◌, nat_lt, List, [], ◌∷◌, ◌++◌}
use Rattle.std.specs.Prelude.{length, drop, fold, Option, Some, None, Result, Ok, Err}
use Rattle.share_base.specs.declared.reason.Reason.{Reason}
use Rattle.share_base.specs.declared.reason.Reason.TheVariants as reason
use Rattle.wire_frames.specs.Framing.{length_field}
use Rattle.message_codec.specs.declared.messages.Msg.{Msg}
use Rattle.message_codec.specs.declared.faults.BadBody.{BadBody}
use Rattle.message_codec.specs.Reasons.{reason_of}
use Rattle.message_codec.specs.Streams.{Reader}
use Rattle.message_codec.specs.Verdicts.{Verdict}
use Rattle.message_codec.specs.BodyVerdicts.{body_verdict}

-- the rest begins at that place; where it is bad, a bad frame stands there
pub record Inbox : Type 0 where
  pub messages : List Msg
  pub place : ℕ
  pub rest : List ℕ
  pub bad : Option Reason

abbrev pub empty_inbox : Inbox
empty_inbox = record { messages = []; place = 0; rest = []; bad = None }

abbrev pub turns_bad : Reason → Inbox → Inbox
turns_bad why box = record box { bad = Some why }

-- the rest is the frame of a message, which may stand there or may not
abbrev pub takes_if : Bool → Msg → Inbox → Inbox
takes_if true m box =
    record {
      messages = box.messages ++ m ∷ [];
      place = box.place + length box.rest;
      rest = [];
      bad = None;
    }
takes_if false m box = turns_bad reason.State box

abbrev pub takes_body : Reader → Result Msg BadBody → Inbox → Inbox
takes_body reader (Ok m) box = takes_if (reader.takes box.messages m) m box
takes_body reader (Err why) box = turns_bad (reason_of why) box

-- the rest is a whole frame, or less than one
abbrev pub opens_if : Reader → Bool → Inbox → Inbox
opens_if reader true box = takes_body reader (body_verdict reader.from (drop 4 box.rest)) box
opens_if reader false box = box

-- the length is above the limit, or within it
abbrev pub limits_if : Reader → Bool → Inbox → Inbox
limits_if reader true box = turns_bad reason.TooLong box
limits_if reader false box = opens_if reader (length box.rest == 4 + length_field box.rest) box

-- the length is not whole yet, or it is
abbrev pub looks_if : Reader → Bool → Inbox → Inbox
looks_if reader true box = box
looks_if reader false box =
    limits_if reader (nat_lt (reader.limit box.messages) (length_field box.rest)) box

-- after a bad frame nothing is looked at
abbrev pub looks : Reader → Option Reason → Inbox → Inbox
looks reader (Some why) box = box
looks reader None box = looks_if reader (nat_lt (length box.rest) 4) box

abbrev pub with_byte : Reader → Inbox → ℕ → Inbox
with_byte reader box byte = looks reader box.bad (record box { rest = box.rest ++ byte ∷ [] })

abbrev pub inbox : Reader → List ℕ → Inbox
inbox reader bytes = fold (with_byte reader) empty_inbox bytes

-- the inbox says what the verdict says
pub record HasVerdict {reader : Reader} {stream : List ℕ} (v : Verdict reader stream) (box : Inbox)
    : Type 0 where
  pub messages_are : box.messages ≡ v.messages
  pub rest_is : box.rest ≡ v.rest
  pub place_is : box.place ≡ v.place
  pub bad_is : box.bad ≡ v.bad
