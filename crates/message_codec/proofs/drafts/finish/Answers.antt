use Rattle.std.proofs.Common.{sym, subst}
use Rattle.message_codec.specs.declared.drafts.Draft.{Draft}
use Rattle.message_codec.specs.declared.faults.BadBody.{BadBody}
use Rattle.message_codec.specs.declared.faults.BadBody.TheVariants as bad
use Rattle.message_codec.specs.Drafts.{draft_code, draft_fields}
use Rattle.message_codec.specs.Refusals.{Misfits}
use Rattle.message_codec.proofs.Misfits.{grab_misfits, clip_misfits, mark_misfits}
use Rattle.message_codec.proofs.drafts.finish.Goals as goal

abbrev MisfitsDraft : BadBody → Draft → Type 0
MisfitsDraft why d = Misfits why (draft_code d) (draft_fields d)

pub returns-in_default-clause-err : goal.returns-in_default-clause-err
returns-in_default-clause-err c =
    let d = c.in-ClipPart in
    subst (MisfitsDraft (bad.BadClip 4)) (sym d.is)
    (clip_misfits d.clip d.seq d.mark d.bytes c.in_default.ensures.none)

pub returns-in_default-of-clause-err : goal.returns-in_default-of-clause-err
returns-in_default-of-clause-err c =
    let d = c.in-ClipPart in
    subst (MisfitsDraft (bad.BadMark 9)) (sym d.is)
    (mark_misfits d.clip d.seq d.mark d.bytes c.in-Some-of.clip c.in-Some-of.ensures.found
    c.in_default-of.ensures.none)

pub returns-in-None-clause-err : goal.returns-in-None-clause-err
returns-in-None-clause-err c =
    let d = c.in-Grab in
    subst (MisfitsDraft (bad.BadClip 4)) (sym d.is)
    (grab_misfits d.clip d.seq c.in-None.ensures.none)
