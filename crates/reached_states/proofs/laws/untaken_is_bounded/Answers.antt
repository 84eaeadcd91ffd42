use Rattle.reached_states.proofs.Untaken.{untaken-is-bounded}
use Rattle.reached_states.proofs.laws.untaken_is_bounded.Goals as goal

pub returns : goal.returns
returns c = untaken-is-bounded
