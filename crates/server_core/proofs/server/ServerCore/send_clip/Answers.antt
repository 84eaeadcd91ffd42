use Rattle.std.proofs.Common.{◌∙◌}
use Rattle.server_core.proofs.SentClips.{clip-told}
use Rattle.server_core.proofs.server.ServerCore.send_clip.Goals as goal

pub returns : goal.returns
returns c = clip-told c.args.self.now c.send_part.new.self c.send_chunks.new.self c.send_part-2.new.self c.args.clip c.args.serial c.as_bytes.result.now c.args.bytes.now (c.as_bytes.ensures.value ∙ c.format-size.ensures.text) c.in_ok-send_part.ensures c.in_ok-send_chunks.ensures c.in_ok-send_part-2.ensures
