use Rattle.held_inputs.specs.declared.line.Line.TheVariants as line
use Rattle.machine.specs.States.{Local}
use Rattle.server_core.proofs.Changed.{stands-logged}
use Rattle.server_core.proofs.server.ServerCore.log_clip.Goals as goal

pub returns : goal.returns
returns c = λ b s h. stands-logged b c.args.self.now s c.local_clip.new.self (Local (line.Clip c.args.clip c.args.bytes.now)) h c.in_ok-local_clip.ensures.ok
