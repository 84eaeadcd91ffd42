use Rattle.std.proofs.Common.{◌∙◌}
use Rattle.pressed_inputs.proofs.Mouse.{some_down}
use Rattle.pressed_inputs.proofs.pressed.Pressed.has_mouse_down.Goals as goal

pub returns : goal.returns
returns c = λ i k. c.any_down.ensures ∙ some_down c.args.self.now.buttons i.buttons k.buttons k.each_button
