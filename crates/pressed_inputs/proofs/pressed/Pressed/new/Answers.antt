use Rattle.std.proofs.Common.{refl}
use Rattle.pressed_inputs.proofs.Steps.{nothing_kept}
use Rattle.pressed_inputs.proofs.pressed.Pressed.new.Goals as goal

pub returns : goal.returns
returns c = nothing_kept 256 c.new.result refl c.new.ensures
