use Rattle.std.proofs.Common.{ℕ, List, length, min, ◌∙◌, ap}
use Rattle.std.specs.Slice.Iter.{chunks_rest}
use Rattle.client_talk.proofs.Sending.{begins-then, more_queued}
use Rattle.client_talk.proofs.clip_sending.queue_chunks.Goals as goal

pub loop-chunk-preserved : goal.loop-chunk-preserved
loop-chunk-preserved c =
    let invariant = c.loop-chunk.invariant in
    let steps = c.in-Some.ensures.steps in
    let rest : List ℕ = chunks_rest c.loop-chunk.chunk-iterator in
    record {
      size = steps.0 ∙ invariant.size;
      queued = more_queued c.args.clip c.args.seq rest c.in-Some.chunk.now (chunks_rest c.next.new.self) c.loop-chunk.outbox c.queue_part.new.outbox _ steps.1.0 (steps.1.1 ∙ ap (λ (n : ℕ). min n (length rest)) invariant.size) steps.1.2 invariant.queued c.in_ok-queue_part.ensures.ok;
      begins = begins-then c.args.outbox.now c.loop-chunk.outbox c.queue_part.new.outbox invariant.begins c.queue_part.ensures.begins;
    }
