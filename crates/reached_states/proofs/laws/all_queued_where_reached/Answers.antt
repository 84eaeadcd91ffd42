use Rattle.reached_states.proofs.Promises.{all-queued-where-reached}
use Rattle.reached_states.proofs.laws.all_queued_where_reached.Goals as goal

pub returns : goal.returns
returns c = all-queued-where-reached
