use Rattle.std.specs.Prelude.{Option, ◌∷◌}
use Rattle.std.proofs.Common.{subst}
use Rattle.share_base.specs.declared.numbers.RuleNo.{RuleNo}
use Rattle.machine.specs.Routes.{button_rule}
use Rattle.machine.specs.Events.{taken_too}
use Rattle.pressed_inputs.specs.Inputs.{inputs_of, after_button_down}
use Rattle.pressed_inputs.specs.Keeping.{Keeps}
use Rattle.server_core.proofs.Kept.{stands-pressed}
use Rattle.server_core.proofs.server.ServerCore.hold_button.Goals as goal

pub returns : goal.returns
returns c = λ b s h. stands-pressed b c.args.self.now s c.button_down.new.self s.presses (c.args.b.0 ∷ s.buttons) s.taken_keys (taken_too (button_rule s c.args.b.0) c.args.b.0 s.taken_buttons) h
    (subst (λ (r : Option RuleNo). Keeps c.button_down.new.self (after_button_down c.args.b.0 r (inputs_of s))) (c.button_rule-rule.ensures b s h) (c.button_down.ensures (inputs_of s) h.pressed))
