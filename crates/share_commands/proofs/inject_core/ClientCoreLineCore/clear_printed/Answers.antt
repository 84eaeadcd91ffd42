use Rattle.share_commands.proofs.Injection.{clears}
use Rattle.share_commands.proofs.inject_core.ClientCoreLineCore.clear_printed.Goals as goal

pub returns-clause-clears : goal.returns-clause-clears
returns-clause-clears c = clears c.args.self.now c.clear_lines.new.self c.clear_lines.ensures.reader c.clear_lines.ensures.done c.clear_lines.ensures.clears
