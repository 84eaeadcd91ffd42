use Rattle.std.proofs.Common.{◌≡◌, ◌≤◌, ◌+◌, length}
use Rattle.std.specs.Str.Lines.{lines}
use Rattle.text_lines.specs.LineByLine.{all_lines}
use Rattle.script_screen.specs.NumberedLines.{numbered}
use Rattle.script_screen.proofs.drafts.take_lines.Given as goal

abbrev pub invariant-loop-rest : goal.invariant-loop-rest
invariant-loop-rest g l = record {
  same : all_lines (numbered g.D.Draft.judged) 1 l.fn.draft (lines l.text)
      ≡ all_lines (numbered g.D.Draft.judged) (l.line + 1) l.draft (lines l.rest);
  few : l.line ≤ 1000000;
  grows : g.D.Draft.size l.draft ≤ g.D.Draft.size l.fn.draft + l.line;
}

abbrev pub decreases-loop-rest : goal.decreases-loop-rest
decreases-loop-rest g l = length l.rest
