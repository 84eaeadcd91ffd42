use Rattle.std.proofs.Common.{◌∙◌}
use Rattle.server_core.proofs.Driven.{open-total}
use Rattle.server_core.proofs.engine.ServerCoreEngine.total.Goals as goal

pub returns : goal.returns
returns c = λ o latest front s reached is_open h. c.total.ensures h.beside s h.stands ∙ open-total s c.args.serial is_open
