use Rattle.std.specs.Prelude.{refl}
use Rattle.std.proofs.Common.{◌∙◌, subst}
use Rattle.machine.specs.Connections.{changed}
use Rattle.machine.specs.Screens.{change}
use Rattle.machine.specs.Partings.{parted}
use Rattle.connection_table.specs.Standing.{AreFor}
use Rattle.connection_table.proofs.Standing.{are-parted}
use Rattle.server_core.specs.Standing.{around}
use Rattle.server_core.proofs.Changed.{stands-changed}
use Rattle.server_core.proofs.server.ServerCore.mark.Goals as goal

pub returns : goal.returns
returns c = λ b s lives h.
    let all = are-parted (around b s) c.args.serial c.args.cause c.moment-now.result c.args.self.now.table c.part.new.self s.connections lives h.connections c.part.ensures in
    c.in_ok-log_part.ensures b (change c.args.serial (parted c.args.cause s.at) s)
    (stands-changed b c.args.self.now s c.part.new.self c.args.serial (parted c.args.cause s.at) (λ d. refl) h
    (subst (λ n. AreFor (around b s) c.part.new.self (changed c.args.serial (parted c.args.cause n) s.connections)) (c.moment-now.ensures.moment ∙ h.at) all))
