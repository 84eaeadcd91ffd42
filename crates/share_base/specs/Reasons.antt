-- The words for what can be wrong with a frame.
use Rattle.std.specs.Prelude.{ℕ, List, codes}
use Rattle.share_base.specs.declared.reason.Reason.{Reason}
use Rattle.share_base.specs.declared.reason.Reason.TheVariants as reason

abbrev pub reason_text : Reason → List ℕ
reason_text reason.TooLong = codes "toolong"
reason_text reason.Code = codes "code"
reason_text reason.End = codes "end"
reason_text reason.Short = codes "short"
reason_text reason.Trailing = codes "trailing"
reason_text reason.Clip = codes "clip"
reason_text reason.Mark = codes "mark"
reason_text reason.State = codes "state"
reason_text reason.Cut = codes "cut"
