use Rattle.server_core.proofs.Driven.{reads-served}
use Rattle.server_core.proofs.engine.ServerCoreEngine.due.Goals as goal

pub returns : goal.returns
returns c = reads-served c.args.self.now c.least_due.result _ c.least_due.ensures
