use Rattle.held_inputs.proofs.Plain.{stands-with_lines}
use Rattle.held_inputs.proofs.laws.plain_lines.Goals as goal

pub returns : goal.returns
returns c = stands-with_lines
