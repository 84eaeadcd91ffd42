use Rattle.reached_states.proofs.OpenAfter.{closing-is-open}
use Rattle.reached_states.proofs.laws.closing_is_open.Goals as goal

pub returns : goal.returns
returns c = closing-is-open
