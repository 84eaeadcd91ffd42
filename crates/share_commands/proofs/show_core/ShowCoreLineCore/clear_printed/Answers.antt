use Rattle.share_commands.proofs.Shown.{clears}
use Rattle.share_commands.proofs.show_core.ShowCoreLineCore.clear_printed.Goals as goal

pub returns-clause-clears : goal.returns-clause-clears
returns-clause-clears c = clears c.args.self.now c.clear.new.self c.clear.ensures
