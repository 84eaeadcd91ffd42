-- Why a connection parts: the farewell before it, whether the queue is dropped, and the log's text.
use Rattle.std.specs.Prelude.{ℕ, Bool, true, false, List, ◌∷◌, ◌++◌, codes, Option, Some, None}
use Rattle.std.specs.Fmt.{decimal}
use Rattle.share_base.specs.Reasons.{reason_text}
use Rattle.message_codec.specs.declared.messages.Msg.{Msg}
use Rattle.message_codec.specs.declared.messages.Msg.TheVariants as msg
use Rattle.hello_states.specs.declared.part_cause.PartCause.{PartCause}
use Rattle.hello_states.specs.declared.part_cause.PartCause.TheVariants as cause

-- the message that is queued before the parting, where the cause has one
abbrev pub farewell : PartCause → Option Msg
farewell cause.Bye = Some msg.Bye
farewell cause.Version = Some (msg.BadVersion 1 6)
farewell cause.Unknown = Some msg.Unknown
farewell cause.Busy = Some msg.Busy
farewell cause.Size = Some msg.Malformed
farewell (cause.Bad place reason) = Some msg.Malformed
farewell cause.Dead = None
farewell cause.Silent = None
farewell cause.Slow = None
farewell cause.Full = None
farewell cause.Ended = None
farewell cause.Failed = None

-- what is queued is dropped; else it is still written
abbrev pub drops_queue : PartCause → Bool
drops_queue cause.Bye = false
drops_queue cause.Version = false
drops_queue cause.Unknown = false
drops_queue cause.Busy = false
drops_queue cause.Size = false
drops_queue (cause.Bad place reason) = false
drops_queue cause.Dead = true
drops_queue cause.Silent = true
drops_queue cause.Slow = true
drops_queue cause.Full = true
drops_queue cause.Ended = true
drops_queue cause.Failed = true

abbrev pub cause_word : PartCause → List ℕ
cause_word cause.Bye = codes "bye"
cause_word cause.Version = codes "version"
cause_word cause.Unknown = codes "unknown"
cause_word cause.Busy = codes "busy"
cause_word cause.Size = codes "size"
cause_word (cause.Bad place reason) = codes "bad"
cause_word cause.Dead = codes "dead"
cause_word cause.Silent = codes "silent"
cause_word cause.Slow = codes "slow"
cause_word cause.Full = codes "full"
cause_word cause.Ended = codes "ended"
cause_word cause.Failed = codes "failed"

-- the log prints the word, and of a bad frame its place and the reason
abbrev pub cause_text : PartCause → List ℕ
cause_text (cause.Bad place reason) =
    cause_word (cause.Bad place reason) ++ 32 ∷ decimal place ++ 32 ∷ reason_text reason
cause_text other = cause_word other
