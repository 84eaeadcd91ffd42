use Rattle.share_commands.proofs.Injection.{adds_last}
use Rattle.share_commands.proofs.inject_core.ClientCoreLineCore.last_lines.Goals as goal

pub returns : goal.returns
returns c = adds_last c.args.self.now c.ended.result c.ended.ensures.released
