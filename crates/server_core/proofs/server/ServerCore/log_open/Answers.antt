use Rattle.machine.specs.States.{Open}
use Rattle.server_core.proofs.Changed.{stands-logged}
use Rattle.server_core.proofs.server.ServerCore.log_open.Goals as goal

pub returns : goal.returns
returns c = λ b s h. stands-logged b c.args.self.now s c.opened.new.self (Open c.args.serial) h c.in_ok-opened.ensures.ok
