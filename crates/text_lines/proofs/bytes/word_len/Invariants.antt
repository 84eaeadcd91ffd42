use Rattle.std.proofs.Common.{◌≡◌, ℕ, ◌<◌, get_or, true}
use Rattle.text_lines.specs.Bytes as spec
use Rattle.text_lines.proofs.bytes.word_len.Given as goal

abbrev pub invariant-loop-i : goal.invariant-loop-i
invariant-loop-i l = (k : ℕ) → k < l.i → spec.takes l.kind (get_or l.bytes k 0) ≡ true
