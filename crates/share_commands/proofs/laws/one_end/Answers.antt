use Rattle.share_commands.proofs.OneEnd.{one_end}
use Rattle.share_commands.proofs.laws.one_end.Goals as goal

pub returns : goal.returns
returns c = one_end
