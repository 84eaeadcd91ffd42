use Rattle.std.proofs.Common.{ℕ, List, length, min, ◌∙◌, ap}
use Rattle.std.specs.Slice.Iter.{chunks_rest}
use Rattle.server_core.proofs.SentClips.{tells-more, tells-all}
use Rattle.server_core.proofs.server.ServerCore.send_chunks.Goals as goal

pub loop-chunk-preserved : goal.loop-chunk-preserved
loop-chunk-preserved c =
    let invariant = c.loop-chunk.invariant in
    let steps = c.in-Some.ensures.steps in
    let rest : List ℕ = chunks_rest c.loop-chunk.chunk-iterator in
    record {
      size = steps.0 ∙ invariant.size;
      tells = tells-more c.args.self.now c.loop-chunk.self c.send_part.new.self c.args.clip c.args.serial rest c.in-Some.chunk.now (chunks_rest c.next.new.self) c.args.bytes.now steps.1.0 (steps.1.1 ∙ ap (λ (n : ℕ). min n (length rest)) invariant.size) steps.1.2 invariant.tells c.in_ok-send_part.ensures;
    }

pub returns : goal.returns
returns c = tells-all c.args.self.now c.loop-chunk.self c.args.clip c.args.serial (chunks_rest c.loop-chunk.chunk-iterator) c.args.bytes.now c.in-None.ensures.steps.1.0 c.loop-chunk.invariant.tells
