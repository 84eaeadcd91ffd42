use Rattle.server_core.proofs.Driven.{reads-served}
use Rattle.server_core.proofs.engine.ServerCoreEngine.reads.Goals as goal

pub returns : goal.returns
returns c = reads-served c.args.self.now c.lives.result _ c.lives.ensures
