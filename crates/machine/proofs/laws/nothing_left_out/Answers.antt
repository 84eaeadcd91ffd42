use Rattle.machine.proofs.HeldLaw.{nothing_left_out}
use Rattle.machine.proofs.laws.nothing_left_out.Goals as goal

pub returns : goal.returns
returns c = nothing_left_out
