use Rattle.std.proofs.Common.{subst}
use Rattle.clip_chunks.specs.Calls.{Left, ruled}
use Rattle.clip_chunks.specs.Books as books
use Rattle.server_core.proofs.Moved.{stands-clips}
use Rattle.server_core.proofs.server.ServerCore.inherit_clips.Goals as goal

pub returns : goal.returns
returns c = λ b s h. stands-clips b c.args.self.now s c.left.new.self (ruled s.primary c.args.self.now.clips.limit (Left c.args.screen.0) s.clips) h c.left.ensures.primary c.left.ensures.limit
    (subst (λ n. books.StandsAt c.left.new.self (ruled n c.args.self.now.clips.limit (Left c.args.screen.0) s.clips)) h.clips_of (c.left.ensures.stands s.clips h.clips))
