use Rattle.std.proofs.Common.{◌≡◌, ◌≤◌, length}
use Rattle.text_lines.specs.Numbers.{digits_from}
use Rattle.text_lines.proofs.decimal_text.digits.Given as goal

abbrev pub invariant-loop-rest : goal.invariant-loop-rest
invariant-loop-rest l =
    record {
      same : digits_from l.max 0 l.text ≡ digits_from l.max l.number l.rest;
      bound : l.number ≤ l.max;
    }

abbrev pub decreases-loop-rest : goal.decreases-loop-rest
decreases-loop-rest l = length l.rest
