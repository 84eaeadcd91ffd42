use Rattle.server_core.proofs.Driven.{reads-served}
use Rattle.server_core.proofs.engine.ServerCoreEngine.closing.Goals as goal

pub returns : goal.returns
returns c = reads-served c.args.self.now c.first_closing.result _ c.first_closing.ensures
