use Rattle.std.proofs.Common.{◌≡◌, ◌≤◌, ◌+◌, length}
use Rattle.std.specs.Str.Lines.{lines}
use Rattle.text_lines.specs.LineByLine.{all_lines}
use Rattle.config_text.specs.Lines as spec
use Rattle.config_text.proofs.drafts.Draft.lines.Given as goal

abbrev pub invariant-loop-rest : goal.invariant-loop-rest
invariant-loop-rest l = record {
  same : all_lines spec.judged 1 l.fn.self (lines l.text)
      ≡ all_lines spec.judged (l.line + 1) l.self (lines l.rest);
  below : l.line + length l.rest ≤ length l.text;
}

abbrev pub decreases-loop-rest : goal.decreases-loop-rest
decreases-loop-rest l = length l.rest
