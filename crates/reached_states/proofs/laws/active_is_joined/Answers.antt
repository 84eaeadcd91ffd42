use Rattle.reached_states.proofs.ActiveScreens.{active-is-joined}
use Rattle.reached_states.proofs.laws.active_is_joined.Goals as goal

pub returns : goal.returns
returns c = active-is-joined
