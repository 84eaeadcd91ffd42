use Rattle.std.specs.Prelude.{ℕ, List, ◌++◌}
use Rattle.std.proofs.Common.{ap, ◌∙◌, subst}
use Rattle.message_codec.specs.declared.messages.Msg.TheVariants as msg
use Rattle.machine.specs.Targets.{Client, Own}
use Rattle.machine.specs.Routing.{route}
use Rattle.server_core.specs.Standing.{Stands}
use Rattle.server_core.proofs.server.ServerCore.send_part.Goals as goal

pub returns : goal.returns
returns c = λ b s there h.
    let same = c.in_ok-extend.ensures.ok ∙ ap (λ (t : List ℕ). t ++ c.args.bytes.now) c.new-data.ensures in
    subst (λ d. Stands b c.route.new.self (route Own (Client c.args.serial) (msg.ClipPart c.args.clip 0 c.args.mark d) s)) same (c.in_ok-route.ensures Own b s there h)
