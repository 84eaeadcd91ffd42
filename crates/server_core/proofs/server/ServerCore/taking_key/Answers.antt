use Rattle.pressed_inputs.specs.Inputs.{inputs_of}
use Rattle.server_core.proofs.server.ServerCore.taking_key.Goals as goal

pub returns : goal.returns
returns c = λ b s h. c.taking_key.ensures (inputs_of s) h.pressed
