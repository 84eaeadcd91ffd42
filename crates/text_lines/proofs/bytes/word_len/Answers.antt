use Rattle.std.proofs.Common.{length, sym, arith}
use Rattle.std.proofs.lemmas.List.Sums.{prefix_len_is}
use Rattle.text_lines.specs.Bytes as spec
use Rattle.text_lines.proofs.bytes.word_len.Goals as goal

pub returns-clause-len : goal.returns-clause-len
returns-clause-len c =
    sym
    (prefix_len_is (spec.takes c.args.kind) c.args.bytes.now (length c.args.bytes.now) 0
    (omega arith) (λ k h. c.loop-i.invariant k (omega arith)) (λ h. absurd (omega arith)))
