use Rattle.machine.specs.States.{Part}
use Rattle.server_core.proofs.Changed.{stands-logged}
use Rattle.server_core.proofs.server.ServerCore.log_part.Goals as goal

pub returns : goal.returns
returns c = λ b s h. stands-logged b c.args.self.now s c.parted.new.self (Part c.args.serial c.args.cause) h c.in_ok-parted.ensures.ok
