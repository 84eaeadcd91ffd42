use Rattle.std.proofs.Common.{ℕ, List, ◌++◌, ◌∙◌, ap}
use Rattle.std.proofs.lemmas.Result.{on_ok_weaker}
use Rattle.clip_chunks.proofs.PartFrames.{put_two}
use Rattle.clip_chunks.proofs.sending.put_part.Goals as goal

pub returns-clause-ok : goal.returns-clause-ok
returns-clause-ok c =
    on_ok_weaker c.extend-2.result
    (λ last.
    put_two c.args.clip c.args.mark c.args.seq c.args.bytes.now c.args.out.now c.extend.new.self
    c.extend-2.new.self
    (c.in_ok-extend.ensures.ok ∙ ap (λ (t : List ℕ). c.args.out.now ++ t) c.header.ensures) last)
    c.extend-2.ensures.ok
