use Rattle.std.specs.Prelude.{refl}
use Rattle.std.proofs.Common.{◌∙◌, subst}
use Rattle.machine.specs.Targets.{Client, Own}
use Rattle.machine.specs.Connections.{changed}
use Rattle.machine.specs.Screens.{change}
use Rattle.machine.specs.Timers.{sent_beat}
use Rattle.connection_table.specs.Standing.{AreFor}
use Rattle.connection_table.proofs.Advancing.{are-beaten}
use Rattle.server_core.specs.Standing.{around}
use Rattle.server_core.proofs.Open.{changed-open}
use Rattle.server_core.proofs.Changed.{stands-changed}
use Rattle.server_core.proofs.server.ServerCore.beat.Goals as goal

pub returns : goal.returns
returns c = λ b s there h.
    let all = are-beaten (around b s) c.args.serial c.moment-now.result c.args.self.now.table c.beat.new.self s.connections h.connections c.beat.ensures in
    c.in_ok-route.ensures Own b (change c.args.serial (sent_beat s.at) s)
    (changed-open c.args.serial (sent_beat s.at) (λ d. refl) s.connections (Client c.args.serial) there)
    (stands-changed b c.args.self.now s c.beat.new.self c.args.serial (sent_beat s.at) (λ d. refl) h
    (subst (λ n. AreFor (around b s) c.beat.new.self (changed c.args.serial (sent_beat n) s.connections)) (c.moment-now.ensures.moment ∙ h.at) all))
