use Rattle.std.specs.Prelude.{Option}
use Rattle.std.proofs.Common.{subst}
use Rattle.share_base.specs.declared.numbers.RuleNo.{RuleNo}
use Rattle.message_codec.specs.declared.messages.Msg.TheVariants as msg
use Rattle.machine.specs.Scripts as line
use Rattle.machine.specs.Routes.{One, on_press}
use Rattle.machine.specs.Events.{holding, go}
use Rattle.server_core.specs.Standing.{Stands}
use Rattle.server_core.proofs.server.ServerCore.button_down.Goals as goal

pub returns : goal.returns
returns c = λ number b s h. subst (λ (r : Option RuleNo). Stands b c.press.new.self (go number (on_press s r (One s.active (msg.ButtonDown c.args.b.0))) (holding (line.ButtonDown c.args.b.0) s))) (c.button_rule-rule.ensures b s h) (c.in_ok-press.ensures number b (holding (line.ButtonDown c.args.b.0) s) (c.hold_button.ensures b s h))
