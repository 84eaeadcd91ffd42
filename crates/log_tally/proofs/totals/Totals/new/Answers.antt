use Rattle.std.proofs.Common.{refl}
use Rattle.log_tally.specs.LogLines.{split_lines}
use Rattle.log_tally.proofs.totals.Totals.new.Goals as goal

pub returns : goal.returns
unfolding split_lines
returns c = record { frames = refl; taken = refl; queued = refl; line = c.new.ensures }
