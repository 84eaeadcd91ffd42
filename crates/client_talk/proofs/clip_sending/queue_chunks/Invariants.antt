use Rattle.std.proofs.Common.{◌≡◌}
use Rattle.std.specs.Slice.Iter.{chunks_rest, chunks_size}
use Rattle.clip_chunks.specs.Sending.{full_chunk}
use Rattle.client_talk.specs.Outboxes.{queued_all, Begins}
use Rattle.client_talk.specs.Copies.{chunk_messages}
use Rattle.client_talk.proofs.clip_sending.queue_chunks.Given as goal

abbrev pub invariant-loop-chunk : goal.invariant-loop-chunk
invariant-loop-chunk l = record {
  size : chunks_size l.chunk-iterator ≡ full_chunk;
  queued : queued_all (chunk_messages l.clip l.seq (chunks_rest l.chunk-iterator)) l.outbox ≡ queued_all (chunk_messages l.clip l.seq l.bytes) l.fn.outbox;
  begins : Begins l.fn.outbox l.outbox;
}
