use Rattle.std.specs.Prelude.{Option}
use Rattle.std.proofs.Common.{subst}
use Rattle.share_base.specs.declared.numbers.RuleNo.{RuleNo}
use Rattle.message_codec.specs.declared.messages.Msg.TheVariants as msg
use Rattle.machine.specs.Scripts as line
use Rattle.machine.specs.Routes.{One, on_release}
use Rattle.machine.specs.Events.{holding, go}
use Rattle.server_core.specs.Standing.{Stands}
use Rattle.server_core.proofs.server.ServerCore.button_up.Goals as goal

pub returns : goal.returns
returns c = λ number b s h. subst (λ (r : Option RuleNo). Stands b c.release.new.self (go number (on_release s r (One s.active (msg.ButtonUp c.args.b.0))) (holding (line.ButtonUp c.args.b.0) s))) (c.taking_button-rule.ensures b s h) (c.in_ok-release.ensures number b (holding (line.ButtonUp c.args.b.0) s) (c.let_button_go.ensures b s h))
