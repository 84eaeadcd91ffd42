use Rattle.std.proofs.Common.{refl}
use Rattle.log_tally.specs.LogLines.{word_after, digits_value}
use Rattle.log_tally.proofs.open_line.OpenLine.new.Goals as goal

pub returns : goal.returns
unfolding word_after digits_value
returns c = record { first = c.new.ensures; blanks = refl; taken = refl; queued = refl }
