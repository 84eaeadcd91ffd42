use Rattle.reached_states.proofs.Reaching.{goes-on}
use Rattle.reached_states.proofs.laws.goes_on.Goals as goal

pub returns : goal.returns
returns c = goes-on
