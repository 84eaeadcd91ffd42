-- How the verdict on a server's stream ends a client, and which of its messages the client hears.
use Rattle.std.specs.Prelude.{◌≡◌, ℕ, List, Option, Some, None, if◌then◌else◌}
use Rattle.std.specs.Option.{option_map}
use Rattle.message_codec.specs.declared.messages.Msg.{Msg}
use Rattle.message_codec.specs.declared.messages.Msg.TheVariants as msg
use Rattle.message_codec.specs.Streams.{Reader}
use Rattle.message_codec.specs.Verdicts.{Verdict}
use Rattle.message_reader.specs.Endings.{before_end, Outcome, Stopped, Failed, outcome, IsFront}
use Rattle.client_talk.specs.Talks.{Talk}
use Rattle.client_talk.specs.Answers.{is_welcome}
use Rattle.client_core.specs.declared.client_end.ClientEnd.{ClientEnd}
use Rattle.client_core.specs.declared.client_end.ClientEnd.TheVariants as end
use Rattle.client_core.specs.declared.client_end.Which.TheVariants as which
use Rattle.client_core.specs.declared.stop.Stop.{Stop}
use Rattle.client_core.specs.declared.stop.Stop.TheVariants as stop

-- a farewell, or a refusal
abbrev pub stop_of : Msg → Option Stop
stop_of msg.Bye = Some stop.Bye
stop_of (msg.BadVersion major minor) = Some (stop.Refused which.Eicv)
stop_of msg.Busy = Some (stop.Refused which.Ebsy)
stop_of msg.Unknown = Some (stop.Refused which.Eunk)
stop_of msg.Malformed = Some (stop.Refused which.Ebad)
stop_of _ = None

-- a client that joins is refused by the hello of a server of another version, too
abbrev pub stop_joining : Msg → Option Stop
stop_joining (msg.Hello major minor) =
    if is_welcome major minor then None else Some (stop.Refused which.Version)
stop_joining m = stop_of m

-- by whether the client joins, and then has a conversation
abbrev pub stop_in : Option Talk → Msg → Option Stop
stop_in None m = stop_of m
stop_in (Some t) m = stop_joining m

-- the end that it brings
abbrev pub end_for : Stop → ClientEnd
end_for stop.Bye = end.Bye
end_for (stop.Refused why) = end.Refused why

-- ---- one that injects

-- its end where the stream ends the reading so
abbrev pub end_by : Outcome Stop → ClientEnd
end_by (Stopped place by) = end_for by
end_by (Failed bad) = end.BadPeer bad.place bad.reason

-- the messages that it hears: those before the first that ends it
abbrev pub heard_of : {reader : Reader} {stream : List ℕ} → Verdict reader stream → List Msg
heard_of verdict = before_end stop_of verdict.messages

-- how the stream ends it
abbrev pub end_of : {reader : Reader} {stream : List ℕ} → Verdict reader stream → Option ClientEnd
end_of verdict = option_map end_by (outcome stop_of verdict)

-- how one that has heard these messages has ended: as the verdict says, after all that it hears; or
-- out of memory, after some of them
abbrev pub IsHeard : {reader : Reader} {stream : List ℕ} → Option ClientEnd → Verdict reader stream
    → List Msg → Type 0
IsHeard (Some end.OutOfMemory) verdict messages = IsFront messages (heard_of verdict)
IsHeard done verdict messages = (done ≡ end_of verdict) × (messages ≡ heard_of verdict)

-- ---- all ends

-- one that is no want of memory
abbrev pub IsOfStream : Option ClientEnd → Type 0
IsOfStream (Some end.OutOfMemory) = ⊥
IsOfStream _ = Unit {0}
