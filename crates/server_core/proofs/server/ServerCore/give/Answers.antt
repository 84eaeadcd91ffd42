use Rattle.std.proofs.Common.{sym, subst}
use Rattle.machine.specs.Clipboards.{give}
use Rattle.server_core.specs.declared.target.Target as kept
use Rattle.server_core.specs.Targets.{meant, IsThere}
use Rattle.server_core.specs.Standing.{Stands}
use Rattle.server_core.proofs.server.ServerCore.give.Goals as goal

pub returns-in_ok-log_clip-in-Primary : goal.returns-in_ok-log_clip-in-Primary
returns-in_ok-log_clip-in-Primary c = λ b s there h. subst (λ (t : kept.Target). Stands b c.log_clip.new.self (give c.args.clip c.args.bytes.now (meant t) s)) (sym c.in-Primary.is) (c.in_ok-log_clip-in-Primary.ensures b s h)

pub returns-in_ok-send_clip-in-Client : goal.returns-in_ok-send_clip-in-Client
returns-in_ok-send_clip-in-Client c = λ b s there h. subst (λ (t : kept.Target). Stands b c.send_clip.new.self (give c.args.clip c.args.bytes.now (meant t) s)) (sym c.in-Client.is) (c.in_ok-send_clip-in-Client.ensures b s (subst (λ (t : kept.Target). IsThere s (meant t)) c.in-Client.is there) h)
