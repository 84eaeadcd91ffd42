use Rattle.reached_states.proofs.Promises.{held-where-reached}
use Rattle.reached_states.proofs.laws.held_where_reached.Goals as goal

pub returns : goal.returns
returns c = held-where-reached
