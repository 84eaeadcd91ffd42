use Rattle.std.specs.Prelude.{ℕ, List, Option}
use Rattle.std.proofs.Common.{sym, subst}
use Rattle.share_base.specs.declared.clip_id.ClipId.{ClipId}
use Rattle.share_base.specs.declared.clip_id.ClipId.TheVariants.{Clipboard, Selection}
use Rattle.connection_table.specs.PartsTaken.{TakesPart}
use Rattle.connection_table.proofs.PartsTaken.{takes-clipboard, takes-selection}
use Rattle.connection_table.proofs.connection.Connection.take_part.Goals as goal

pub returns-in_ok-took-in-Clipboard-clause-ok : goal.returns-in_ok-took-in-Clipboard-clause-ok
returns-in_ok-took-in-Clipboard-clause-ok c =
    subst (λ (clip : ClipId). TakesPart clip c.args.seq c.args.mark c.args.bytes.now c.whole_in.result c.args.self.now (record c.args.self.now { clipboard = c.take.new.self })) (sym c.in-Clipboard.is)
    (subst (λ (whole : Option (List ℕ)). TakesPart Clipboard c.args.seq c.args.mark c.args.bytes.now whole c.args.self.now (record c.args.self.now { clipboard = c.take.new.self })) (sym c.whole_in.ensures)
    (takes-clipboard c.args.self.now c.take.new.self c.args.seq c.args.mark c.args.bytes.now c.in_ok-took-in-Clipboard.took c.in_ok-took-in-Clipboard.ensures.wholes c.in_ok-took-in-Clipboard.ensures.stands))

pub returns-in_ok-took-in-Selection-clause-ok : goal.returns-in_ok-took-in-Selection-clause-ok
returns-in_ok-took-in-Selection-clause-ok c =
    subst (λ (clip : ClipId). TakesPart clip c.args.seq c.args.mark c.args.bytes.now c.whole_in-in-Selection.result c.args.self.now (record c.args.self.now { selection = c.take-in-Selection.new.self })) (sym c.in-Selection.is)
    (subst (λ (whole : Option (List ℕ)). TakesPart Selection c.args.seq c.args.mark c.args.bytes.now whole c.args.self.now (record c.args.self.now { selection = c.take-in-Selection.new.self })) (sym c.whole_in-in-Selection.ensures)
    (takes-selection c.args.self.now c.take-in-Selection.new.self c.args.seq c.args.mark c.args.bytes.now c.in_ok-took-in-Selection.took c.in_ok-took-in-Selection.ensures.wholes c.in_ok-took-in-Selection.ensures.stands))
