use Rattle.std.proofs.Common.{sym}
use Rattle.std.proofs.lemmas.List.{take_rest}
use Rattle.text_lines.proofs.Cuts.{lines_none, lines_some}
use Rattle.text_lines.proofs.lines.cut_line.Goals as goal

pub returns-in-Some-clause-lines : goal.returns-in-Some-clause-lines
returns-in-Some-clause-lines c =
    rw (take_rest, c.without_return.ensures.gives)
    (lines_some c.args.text.now c.in-Some.place (sym c.in-Some.ensures.gives))

pub returns-in-None-clause-lines : goal.returns-in-None-clause-lines
returns-in-None-clause-lines c = lines_none c.args.text.now c.requires (sym c.in-None.ensures.gives)
