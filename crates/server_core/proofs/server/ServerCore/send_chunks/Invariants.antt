use Rattle.std.proofs.Common.{◌≡◌}
use Rattle.std.specs.Slice.Iter.{chunks_rest, chunks_size}
use Rattle.clip_chunks.specs.Sending.{full_chunk}
use Rattle.server_core.proofs.SentClips.{Tells}
use Rattle.server_core.proofs.server.ServerCore.send_chunks.Given as goal

abbrev pub invariant-loop-chunk : goal.invariant-loop-chunk
invariant-loop-chunk l = record {
  size : chunks_size l.chunk-iterator ≡ full_chunk;
  tells : Tells l.fn.self l.self l.clip l.serial (chunks_rest l.chunk-iterator) l.bytes;
}
