use Rattle.std.proofs.Common.{◌∙◌}
use Rattle.client_talk.proofs.Sending.{clip_queued}
use Rattle.client_talk.proofs.clip_sending.queue_clip.Goals as goal

pub returns-clause-ok : goal.returns-clause-ok
returns-clause-ok c = clip_queued c.queue_part-2.result c.args.clip c.args.seq c.as_bytes.result.now c.args.bytes.now c.args.outbox.now c.queue_part.new.outbox c.queue_chunks.new.outbox c.queue_part-2.new.outbox (c.as_bytes.ensures.value ∙ c.format-size.ensures.text) c.in_ok-queue_part.ensures.ok c.in_ok-queue_chunks.ensures.ok c.queue_part-2.ensures.ok
