use Rattle.std.specs.Prelude.{not, ◌==◌, filter}
use Rattle.machine.specs.Events.{released}
use Rattle.pressed_inputs.specs.Inputs.{inputs_of}
use Rattle.server_core.proofs.Kept.{stands-pressed}
use Rattle.server_core.proofs.server.ServerCore.let_button_go.Goals as goal

pub returns : goal.returns
returns c = λ b s h. stands-pressed b c.args.self.now s c.button_up.new.self s.presses (filter (λ n. not (n == c.args.b.0)) s.buttons) s.taken_keys (released c.args.b.0 s.taken_buttons) h (c.button_up.ensures (inputs_of s) h.pressed)
