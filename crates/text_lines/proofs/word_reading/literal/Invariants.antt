use Rattle.std.proofs.Common.{◌≡◌, length}
use Rattle.text_lines.specs.Reading.{literal_at}
use Rattle.text_lines.proofs.word_reading.literal.Given as goal

abbrev pub invariant-loop-missing : goal.invariant-loop-missing
invariant-loop-missing l = literal_at l.wanted l.bytes ≡ literal_at l.missing l.rest

abbrev pub decreases-loop-missing : goal.decreases-loop-missing
decreases-loop-missing l = length l.missing
