use Rattle.std.specs.Prelude.{Option, ◌∷◌}
use Rattle.std.proofs.Common.{subst}
use Rattle.share_base.specs.declared.numbers.RuleNo.{RuleNo}
use Rattle.modifier_map.specs.Presses as presses
use Rattle.machine.specs.Routes.{key_rule}
use Rattle.machine.specs.Events.{taken_too}
use Rattle.pressed_inputs.specs.Inputs.{inputs_of, after_key_down}
use Rattle.pressed_inputs.specs.Keeping.{Keeps}
use Rattle.server_core.proofs.Kept.{stands-pressed}
use Rattle.server_core.proofs.server.ServerCore.hold_key.Goals as goal

pub returns : goal.returns
returns c = λ b s h. stands-pressed b c.args.self.now s c.key_down.new.self (presses.Press c.args.id.0 c.args.button.0 ∷ s.presses) s.buttons (taken_too (key_rule s c.args.id.0) c.args.button.0 s.taken_keys) s.taken_buttons h
    (subst (λ (r : Option RuleNo). Keeps c.key_down.new.self (after_key_down c.args.id.0 c.args.button.0 r (inputs_of s))) (c.key_rule-rule.ensures b s h) (c.key_down.ensures (inputs_of s) h.pressed))
