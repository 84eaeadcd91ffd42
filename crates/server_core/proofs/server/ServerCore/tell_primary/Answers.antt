use Rattle.server_core.proofs.Told.{stands-told}
use Rattle.server_core.proofs.server.ServerCore.tell_primary.Goals as goal

pub returns : goal.returns
returns c = λ o b s there h. stands-told b c.args.self.now s o c.args.message.now c.told.new.self c.told.new.log h c.in_ok-told.ensures.ok
