use Rattle.text_lines.proofs.SpelledLines.{empty_takes, empty_again, content_takes, content_again}
use Rattle.text_lines.proofs.SpelledLines.{forbidden_takes, forbidden_again}
use Rattle.text_lines.proofs.laws.lines_are_spelled.Goals as goal

pub returns : goal.returns
returns c = record {
  empty = empty_takes;
  empty_read = empty_again;
  words = content_takes;
  words_read = content_again;
  forbidden = forbidden_takes;
  forbidden_read = forbidden_again;
}
