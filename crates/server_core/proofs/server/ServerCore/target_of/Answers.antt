use Rattle.std.proofs.Common.{sym, ◌∙◌}
use Rattle.server_core.proofs.JoinedAs.{some-as, none-as, other-as}
use Rattle.server_core.proofs.server.ServerCore.target_of.Goals as goal

pub returns-in_default : goal.returns-in_default
returns-in_default c = λ b s h. none-as b c.args.self.now s c.args.screen.0 c.in_default.ensures h ∙ sym (other-as s c.args.screen.0 c.primary_screen-primary.result.0 (c.primary_screen-primary.ensures.screen b s h) c.if-screen-primary.false)

pub returns : goal.returns
returns c = λ b s h. some-as b c.args.self.now s c.args.screen.0 c.serial.result c.in-Some.connection.now c.in-Some.ensures c.serial.ensures h ∙ sym (other-as s c.args.screen.0 c.primary_screen-primary.result.0 (c.primary_screen-primary.ensures.screen b s h) c.if-screen-primary.false)
