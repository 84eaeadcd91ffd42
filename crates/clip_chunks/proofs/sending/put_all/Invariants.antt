use Rattle.std.proofs.Common.{◌≡◌, ◌++◌, length, take}
use Rattle.std.specs.Slice.Iter.{chunks_rest, chunks_size}
use Rattle.clip_chunks.specs.Sending.{full_chunk, chunks_of}
use Rattle.clip_chunks.proofs.ClipFrames.{chunk_frames}
use Rattle.clip_chunks.proofs.sending.put_all.Given as goal

abbrev pub invariant-loop-chunk : goal.invariant-loop-chunk
invariant-loop-chunk l = record {
  size : chunks_size l.chunk-iterator ≡ full_chunk;
  begins : take (length l.fn.out) l.out ≡ l.fn.out;
  frames : l.out ++ chunk_frames l.clip l.seq (chunks_of (chunks_rest l.chunk-iterator))
      ≡ l.initial.out ++ chunk_frames l.clip l.seq (chunks_of l.bytes);
}
