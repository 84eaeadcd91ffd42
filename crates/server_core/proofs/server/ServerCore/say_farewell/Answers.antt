use Rattle.std.specs.Prelude.{Option}
use Rattle.std.proofs.Common.{sym, ◌∙◌, subst}
use Rattle.message_codec.specs.declared.messages.Msg.{Msg}
use Rattle.machine.specs.Targets.{Client, Own}
use Rattle.machine.specs.Combining.{for_some, unchanged}
use Rattle.machine.specs.Routing.{route}
use Rattle.server_core.specs.Standing.{Stands}
use Rattle.server_core.proofs.Open.{lives-open}
use Rattle.server_core.proofs.server.ServerCore.say_farewell.Goals as goal

pub returns : goal.returns
returns c = λ b s lives h. subst (λ (m : Option Msg). Stands b c.route.new.self (for_some m (route Own (Client c.args.serial)) unchanged s)) c.in-Some.ensures (c.in_ok-route.ensures Own b s (lives-open s c.args.serial lives) h)

pub returns-in_default : goal.returns-in_default
returns-in_default c = λ b s lives h. subst (λ (m : Option Msg). Stands b c.args.self.now (for_some m (route Own (Client c.args.serial)) unchanged s)) (sym c.in_default.is ∙ c.farewell.ensures) h
