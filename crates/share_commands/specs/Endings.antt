-- How the verdict on a stream ends a command.
use Rattle.std.specs.Prelude.{ℕ, List, [], ◌∷◌, Option, if◌then◌else◌}
use Rattle.std.specs.Option.{option_map}
use Rattle.share_base.specs.declared.reason.Reason.TheVariants as reason
use Rattle.message_codec.specs.declared.messages.Msg.{Msg}
use Rattle.message_codec.specs.Streams.{Reader}
use Rattle.message_codec.specs.Verdicts.{Verdict}
use Rattle.message_reader.specs.Endings.{before_end, Outcome, outcome}
use Rattle.client_core.specs.declared.client_end.ClientEnd.{ClientEnd}
use Rattle.client_core.specs.declared.client_end.ClientEnd.TheVariants as end
use Rattle.client_core.specs.declared.client_end.LostCause.TheVariants as lost
use Rattle.client_core.specs.declared.stop.Stop.{Stop}
use Rattle.client_core.specs.Ends.{end_by}
use Rattle.share_commands.specs.declared.status.Status.{Status}
use Rattle.share_commands.specs.declared.status.Status.TheVariants as status
use Rattle.share_commands.specs.Ways.{Way}

-- how `join` ends where its client does
abbrev pub status_of_client : ClientEnd → Status
status_of_client end.Bye = status.Ok
status_of_client (end.Refused which) = status.Refused which
status_of_client (end.BadPeer place why) = status.BadPeer place why
status_of_client (end.Lost cause) = status.Lost cause
status_of_client end.TurnsSpent = status.TurnsSpent
status_of_client end.LinkFault = status.LinkFault
status_of_client end.WriteFault = status.WriteFault
status_of_client end.OutOfMemory = status.OutOfMemory

-- how `inject` does: the same, but a bad frame stands in its input
abbrev pub status_of : ClientEnd → Status
status_of (end.BadPeer place why) = status.BadFrames place why
status_of e = status_of_client e

-- the end of the client where the command ends so: the same, or where a client has no such end, the
-- stream's
abbrev pub client_end_of : Status → ClientEnd
client_end_of status.Ok = end.Bye
client_end_of (status.Refused which) = end.Refused which
client_end_of (status.BadFrames place why) = end.BadPeer place why
client_end_of (status.Lost cause) = end.Lost cause
client_end_of status.TurnsSpent = end.TurnsSpent
client_end_of status.LinkFault = end.LinkFault
client_end_of status.WriteFault = end.WriteFault
client_end_of status.OutOfMemory = end.OutOfMemory
client_end_of _ = end.Lost lost.Ended

-- how a command ends where its stream ends the reading so
abbrev pub status_by : Outcome Stop → Status
status_by to = status_of (end_by to)

-- the messages that are printed: those before the first that ends the command
abbrev pub printed_of : {reader : Reader} {stream : List ℕ} → Way → Verdict reader stream → List Msg
printed_of w verdict = before_end w.ends verdict.messages

-- the end that the stream decides: that of the first message that ends the command, else the bad
-- frame's
abbrev pub decided : {reader : Reader} {stream : List ℕ} → Way → Verdict reader stream
    → Option Status
decided w verdict = option_map status_by (outcome w.ends verdict)

-- the end where the stream ends between frames
abbrev pub between : Way → Status
between w = if w.waits then status.Lost lost.Ended else status.Ok

-- the end where the stream ends and decides none: between frames, or inside one
abbrev pub end_at : Way → ℕ → List ℕ → Status
end_at w place [] = between w
end_at w place (byte ∷ bytes) = status.BadFrames place reason.Cut

abbrev pub end_of_input : {reader : Reader} {stream : List ℕ} → Way → Verdict reader stream → Status
end_of_input w verdict = end_at w verdict.place verdict.rest
