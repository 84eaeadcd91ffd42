use Rattle.clip_chunks.specs.Calls.{Joined, ruled}
use Rattle.server_core.proofs.Moved.{stands-clips}
use Rattle.server_core.proofs.server.ServerCore.dirty_clips.Goals as goal

pub returns : goal.returns
returns c = λ b s h. stands-clips b c.args.self.now s c.joined.new.self (ruled c.args.self.now.clips.primary.0 c.args.self.now.clips.limit (Joined c.args.screen.0) s.clips) h c.joined.ensures.primary c.joined.ensures.limit (c.joined.ensures.stands s.clips h.clips)
