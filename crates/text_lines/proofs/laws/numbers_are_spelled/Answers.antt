use Rattle.std.proofs.Common.{arith}
use Rattle.text_lines.proofs.NumbersAgain.{decimal_again}
use Rattle.text_lines.proofs.DecimalsSpelled.{decimal_spelled, decimal_within}
use Rattle.text_lines.proofs.laws.numbers_are_spelled.Goals as goal

pub returns : goal.returns
returns c =
    record {
      spelled = decimal_spelled;
      within = decimal_within;
      read = λ max n h k. decimal_again max n (omega arith) k;
    }
