use Rattle.std.specs.Prelude.{Option}
use Rattle.std.proofs.Common.{subst}
use Rattle.share_base.specs.declared.numbers.RuleNo.{RuleNo}
use Rattle.message_codec.specs.declared.messages.Msg.TheVariants as msg
use Rattle.pressed_inputs.specs.Inputs.{inputs_of}
use Rattle.machine.specs.Scripts as line
use Rattle.machine.specs.States.{State}
use Rattle.machine.specs.Modifiers.{mask, id_at}
use Rattle.machine.specs.Routes.{One, on_release}
use Rattle.machine.specs.Events.{holding, go}
use Rattle.server_core.specs.Standing.{Stands}
use Rattle.server_core.proofs.server.ServerCore.key_up.Goals as goal

pub returns : goal.returns
returns c = λ number b s h.
    let button = c.args.button.0 in
    let held : State = holding (line.KeyUp button) s in
    subst (λ (r : Option RuleNo). Stands b c.release.new.self (go number (on_release s r (One s.active (msg.KeyUp (id_at s button) (mask s) button))) held)) (c.taking_key-rule.ensures b s h)
    (subst (λ n. Stands b c.release.new.self (go number (on_release s c.taking_key-rule.result (One s.active (msg.KeyUp (id_at s button) n button))) held)) (c.mask.ensures (inputs_of s) h.pressed)
    (subst (λ n. Stands b c.release.new.self (go number (on_release s c.taking_key-rule.result (One s.active (msg.KeyUp n c.mask.result.0 button))) held)) (c.id_at.ensures (inputs_of s) h.pressed)
    (c.in_ok-release.ensures number b held (c.let_key_go.ensures b s h))))
