-- The reason for which the frame of a bad body is bad.
use Rattle.share_base.specs.declared.reason.Reason.{Reason}
use Rattle.share_base.specs.declared.reason.Reason.TheVariants as reason
use Rattle.message_codec.specs.declared.faults.BadBody.{BadBody}
use Rattle.message_codec.specs.declared.faults.BadBody.TheVariants as bad

abbrev pub reason_of : BadBody → Reason
reason_of bad.UnknownCode = reason.Code
reason_of bad.WrongEnd = reason.End
reason_of (bad.Short at) = reason.Short
reason_of (bad.Trailing at) = reason.Trailing
reason_of (bad.BadClip at) = reason.Clip
reason_of (bad.BadMark at) = reason.Mark
