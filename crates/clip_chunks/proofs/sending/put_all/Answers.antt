use Rattle.std.proofs.Common.{ℕ, List, ◌++◌, length, min, ◌∙◌, ap}
use Rattle.std.specs.Slice.Iter.{chunks_rest}
use Rattle.std.proofs.lemmas.Result.{on_ok_weaker}
use Rattle.message_codec.specs.declared.clip_mark.ClipMark.TheVariants as mark
use Rattle.clip_chunks.specs.Sending.{part_frame, chunks_of}
use Rattle.clip_chunks.proofs.PartFrames.{begins_more}
use Rattle.clip_chunks.proofs.ClipFrames.{chunk_frames, chunk_put, all_put}
use Rattle.clip_chunks.proofs.sending.put_all.Goals as goal

pub loop-chunk-preserved : goal.loop-chunk-preserved
loop-chunk-preserved c =
    let invariant = c.loop-chunk.invariant in
    let steps = c.in-Some.ensures.steps in
    let out : List ℕ = c.loop-chunk.out in
    let new : List ℕ = c.put_part-in-loop-chunk.new.out in
    let rest : List ℕ = chunks_rest c.loop-chunk.chunk-iterator in
    let chunk : List ℕ = c.in-Some.chunk.now in
    let put = c.in_ok-put_part-2.ensures.ok in
    record {
      size = steps.0 ∙ invariant.size;
      begins =
          begins_more c.args.out.now out (part_frame mark.Chunk c.args.clip c.args.seq chunk) new
          invariant.begins put;
      frames =
          chunk_put c.args.clip c.args.seq
          (c.put_part.new.out ++ chunk_frames c.args.clip c.args.seq (chunks_of c.args.bytes.now))
          out new rest chunk (chunks_rest c.next.new.self)
          invariant.frames steps.1.0
          (steps.1.1 ∙ ap (λ (n : ℕ). min n (length rest)) invariant.size) steps.1.2 put;
    }

pub returns-clause-ok : goal.returns-clause-ok
returns-clause-ok c =
    on_ok_weaker c.put_part-2.result
    (λ last.
    all_put c.args.clip c.args.seq c.args.bytes.now c.as_bytes.result.now c.args.out.now
    c.put_part.new.out c.loop-chunk.out (chunks_rest c.loop-chunk.chunk-iterator)
    c.put_part-2.new.out
    (c.as_bytes.ensures.value ∙ c.format-size.ensures.text) c.in_ok-put_part.ensures.ok
    c.loop-chunk.invariant.frames c.in-None.ensures.steps.1.0 last)
    c.put_part-2.ensures.ok
