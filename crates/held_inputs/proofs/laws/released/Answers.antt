use Rattle.held_inputs.proofs.Histories.{balanced, nothing_left, good-screen}
use Rattle.held_inputs.proofs.laws.released.Goals as goal

pub returns : goal.returns
returns c = record {
  balanced = balanced;
  nothing = nothing_left;
  leaves = λ mods calls. (good-screen mods calls).leaves;
}
