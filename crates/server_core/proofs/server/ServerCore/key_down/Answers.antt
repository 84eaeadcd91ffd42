use Rattle.std.specs.Prelude.{Option}
use Rattle.std.proofs.Common.{subst}
use Rattle.share_base.specs.declared.numbers.RuleNo.{RuleNo}
use Rattle.message_codec.specs.declared.messages.Msg.TheVariants as msg
use Rattle.pressed_inputs.specs.Inputs.{inputs_of}
use Rattle.machine.specs.Scripts as line
use Rattle.machine.specs.States.{State}
use Rattle.machine.specs.Modifiers.{mask}
use Rattle.machine.specs.Routes.{One, on_press}
use Rattle.machine.specs.Events.{holding, go}
use Rattle.server_core.specs.Standing.{Stands}
use Rattle.server_core.proofs.server.ServerCore.key_down.Goals as goal

pub returns : goal.returns
returns c = λ number b s h.
    let id = c.args.id.0 in
    let button = c.args.button.0 in
    let held : State = holding (line.KeyDown id button) s in
    subst (λ (r : Option RuleNo). Stands b c.press.new.self (go number (on_press s r (One s.active (msg.KeyDown id (mask s) button))) held)) (c.key_rule-rule.ensures b s h)
    (subst (λ n. Stands b c.press.new.self (go number (on_press s c.key_rule-rule.result (One s.active (msg.KeyDown id n button))) held)) (c.mask.ensures (inputs_of s) h.pressed)
    (c.in_ok-press.ensures number b held (c.hold_key.ensures b s h)))
