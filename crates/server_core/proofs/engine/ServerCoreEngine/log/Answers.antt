use Rattle.server_core.proofs.Driven.{logs-departing}
use Rattle.server_core.proofs.engine.ServerCoreEngine.log.Goals as goal

pub returns : goal.returns
returns c = logs-departing c.args.self.now c.as_slice.result.now c.as_slice.ensures
