use Rattle.std.specs.Prelude.{not}
use Rattle.std.proofs.Common.{ap}
use Rattle.server_core.proofs.engine.ServerCoreEngine.accepts.Goals as goal

pub returns : goal.returns
returns c = λ o latest front s reached h. ap not h.stands.has_quit
