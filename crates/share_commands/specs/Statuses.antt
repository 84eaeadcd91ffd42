-- The table of statuses: the exit code and the line on standard error.
use Rattle.std.specs.Prelude.{ℕ, List, [], ◌∷◌, ◌++◌, codes}
use Rattle.std.specs.Fmt.{decimal}
use Rattle.share_base.specs.Reasons.{reason_text}
use Rattle.config_text.specs.Kinds.{kind_text}
use Rattle.script_screen.specs.Kinds.{text_kind_word}
use Rattle.share_commands.specs.declared.status.Status.{Status}
use Rattle.share_commands.specs.declared.status.Status.TheVariants as status
use Rattle.client_core.specs.declared.client_end.LostCause.TheVariants as lost
use Rattle.client_core.specs.declared.client_end.Which.TheVariants as which

pub record StatusRow : Type 0 where
  pub code : ℕ
  pub text : List ℕ

abbrev status_row : ℕ → List ℕ → StatusRow
status_row code text = record { code = code; text = text }

abbrev pub row : Status → StatusRow
row status.Ok = status_row 0 []
row (status.BadConfig line column kind) =
    status_row 1
    (codes "config " ++ decimal line ++ 32 ∷ [] ++ decimal column ++ 32 ∷ [] ++ kind_text kind
    ++ 10 ∷ [])
row (status.BadFrames place reason) =
    status_row 1 (codes "frames " ++ decimal place ++ 32 ∷ [] ++ reason_text reason ++ 10 ∷ [])
row (status.BadScript line kind) =
    status_row 1 (codes "script " ++ decimal line ++ 32 ∷ [] ++ text_kind_word kind ++ 10 ∷ [])
row (status.BadTrace line kind) =
    status_row 1 (codes "trace " ++ decimal line ++ 32 ∷ [] ++ text_kind_word kind ++ 10 ∷ [])
row status.InputTooLong = status_row 1 (codes "input too long\n")
row status.Usage = status_row 2 (codes "usage\n")
row status.ReadFault = status_row 3 (codes "read fault\n")
row status.WriteFault = status_row 4 (codes "write fault\n")
row status.OutOfMemory = status_row 6 (codes "out of memory\n")
row status.HubFault = status_row 5 (codes "hub fault\n")
row status.LinkFault = status_row 5 (codes "link fault\n")
row status.TurnsSpent = status_row 7 (codes "turns spent\n")
row (status.Refused which.Version) = status_row 8 (codes "refused version\n")
row (status.Refused which.Eicv) = status_row 8 (codes "refused EICV\n")
row (status.Refused which.Ebsy) = status_row 8 (codes "refused EBSY\n")
row (status.Refused which.Eunk) = status_row 8 (codes "refused EUNK\n")
row (status.Refused which.Ebad) = status_row 8 (codes "refused EBAD\n")
row (status.Lost lost.Ended) = status_row 9 (codes "lost ended\n")
row (status.Lost lost.Failed) = status_row 9 (codes "lost failed\n")
row (status.Lost lost.Dead) = status_row 9 (codes "lost dead\n")
row (status.Lost lost.Slow) = status_row 9 (codes "lost slow\n")
row (status.BadPeer place reason) =
    status_row 9 (codes "peer " ++ decimal place ++ 32 ∷ [] ++ reason_text reason ++ 10 ∷ [])

abbrev pub exit_code : Status → ℕ
exit_code end = (row end).code

abbrev pub status_line : Status → List ℕ
status_line end = (row end).text
