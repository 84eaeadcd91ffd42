use Rattle.std.proofs.Common.{◌≡◌, ◌≤◌, true, length}
use Rattle.text_lines.specs.Bytes.{is_tight}
use Rattle.text_lines.specs.Words.{words_of}
use Rattle.option_table.specs.Corners.{after_words, corners_of_text}
use Rattle.option_table.proofs.corners.corners.Given as goal

abbrev pub invariant-loop-rest : goal.invariant-loop-rest
invariant-loop-rest l =
    record {
      same : corners_of_text l.text ≡ after_words l.set (words_of l.rest);
      tight : is_tight l.rest ≡ true;
      bound : l.set ≤ 15;
    }

abbrev pub decreases-loop-rest : goal.decreases-loop-rest
decreases-loop-rest l = length l.rest
