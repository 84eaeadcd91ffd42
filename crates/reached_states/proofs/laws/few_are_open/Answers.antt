use Rattle.reached_states.proofs.FewOpen.{few-are-open}
use Rattle.reached_states.proofs.laws.few_are_open.Goals as goal

pub returns : goal.returns
returns c = few-are-open
