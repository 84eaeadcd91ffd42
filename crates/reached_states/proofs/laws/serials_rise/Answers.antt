use Rattle.reached_states.proofs.Rising.{serials-rise}
use Rattle.reached_states.proofs.laws.serials_rise.Goals as goal

pub returns : goal.returns
returns c = serials-rise
