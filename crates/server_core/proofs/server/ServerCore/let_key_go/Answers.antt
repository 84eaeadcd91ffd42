use Rattle.std.specs.Prelude.{◌∷◌}
use Rattle.modifier_map.specs.Presses as presses
use Rattle.machine.specs.Events.{released}
use Rattle.pressed_inputs.specs.Inputs.{inputs_of}
use Rattle.server_core.proofs.Kept.{stands-pressed}
use Rattle.server_core.proofs.server.ServerCore.let_key_go.Goals as goal

pub returns : goal.returns
returns c = λ b s h. stands-pressed b c.args.self.now s c.key_up.new.self (presses.Release c.args.button.0 ∷ s.presses) s.buttons (released c.args.button.0 s.taken_keys) s.taken_buttons h (c.key_up.ensures (inputs_of s) h.pressed)
