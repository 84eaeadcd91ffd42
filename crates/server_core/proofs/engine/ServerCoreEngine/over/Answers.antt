use Rattle.server_core.proofs.Driven.{reads-served}
use Rattle.server_core.proofs.engine.ServerCoreEngine.over.Goals as goal

pub returns : goal.returns
returns c = reads-served c.args.self.now c.is_over.result _ c.is_over.ensures
