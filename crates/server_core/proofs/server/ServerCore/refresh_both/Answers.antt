use Rattle.share_base.specs.declared.clip_id.ClipId.TheVariants.{Clipboard}
use Rattle.machine.specs.Clipboards.{refresh}
use Rattle.server_core.proofs.server.ServerCore.refresh_both.Goals as goal

pub returns : goal.returns
returns c = λ b s h. c.in_ok-refresh-2.ensures b (refresh Clipboard s) (c.in_ok-refresh.ensures b s h)
