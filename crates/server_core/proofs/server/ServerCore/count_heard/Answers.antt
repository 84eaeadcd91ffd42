use Rattle.std.specs.Prelude.{refl, ℕ}
use Rattle.std.proofs.Common.{◌∙◌, subst}
use Rattle.machine.specs.Connections.{changed}
use Rattle.machine.specs.Hearing.{was_heard}
use Rattle.connection_table.specs.Standing.{AreFor}
use Rattle.connection_table.proofs.Advancing.{are-heard}
use Rattle.server_core.specs.Standing.{around}
use Rattle.server_core.proofs.Changed.{stands-changed}
use Rattle.server_core.proofs.server.ServerCore.count_heard.Goals as goal

pub returns : goal.returns
returns c = λ b s h.
    stands-changed b c.args.self.now s c.hear.new.self c.args.serial (was_heard s.at) (λ d. refl) h
    (subst (λ (n : ℕ). AreFor (around b s) c.hear.new.self (changed c.args.serial (was_heard n) s.connections)) (c.moment.ensures.moment ∙ h.at)
    (are-heard (around b s) c.args.serial c.moment.result c.args.self.now.table c.hear.new.self s.connections h.connections c.hear.ensures))
