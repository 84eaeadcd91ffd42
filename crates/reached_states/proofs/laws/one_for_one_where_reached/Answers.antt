use Rattle.reached_states.proofs.Promises.{one-for-one-where-reached}
use Rattle.reached_states.proofs.laws.one_for_one_where_reached.Goals as goal

pub returns : goal.returns
returns c = one-for-one-where-reached
