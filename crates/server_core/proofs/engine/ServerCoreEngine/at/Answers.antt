use Rattle.std.proofs.Common.{◌∙◌}
use Rattle.server_core.proofs.engine.ServerCoreEngine.at.Goals as goal

pub returns : goal.returns
returns c = λ o latest front s reached h. c.moment.ensures.moment ∙ h.stands.at
