use Rattle.reached_states.proofs.NewSerials.{new-is-untold}
use Rattle.reached_states.proofs.laws.new_is_untold.Goals as goal

pub returns : goal.returns
returns c = new-is-untold
