use Rattle.held_inputs.proofs.Histories.{screen-grows}
use Rattle.held_inputs.proofs.laws.one_call_more.Goals as goal

pub returns : goal.returns
returns c = screen-grows
