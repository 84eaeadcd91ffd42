use Rattle.reached_states.proofs.OpenAfter.{open-after}
use Rattle.reached_states.proofs.laws.open_after.Goals as goal

pub returns : goal.returns
returns c = open-after
