use Rattle.reached_states.proofs.GrowingLog.{log-grows}
use Rattle.reached_states.proofs.laws.log_grows.Goals as goal

pub returns : goal.returns
returns c = log-grows
