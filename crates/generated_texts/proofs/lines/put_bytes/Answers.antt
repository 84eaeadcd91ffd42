use Rattle.std.proofs.Common.{◌++◌, List, ℕ, ap, ◌∙◌}
use Rattle.share_base.specs.Hex.{hex_pair}
use Rattle.generated_texts.proofs.LineSteps.{put_more}
use Rattle.generated_texts.proofs.lines.put_bytes.Goals as goal

pub loop-byte-preserved : goal.loop-byte-preserved
loop-byte-preserved c =
    put_more hex_pair c.loop-byte.byte c.args.out.now c.loop-byte.out c.extend.new.self
    c.loop-byte.invariant
    (c.in_ok-extend.ensures.ok ∙ ap (λ (pair : List ℕ). c.loop-byte.out ++ pair) c.hex_pair.ensures)
