use Rattle.std.proofs.Common.{refl}
use Rattle.client_core.proofs.Screens.{shows-reset}
use Rattle.client_core.proofs.printer.Printer.reset_options.Goals as goal

pub returns-clause-ok : goal.returns-clause-ok
returns-clause-ok c = shows-reset _ _ c.reset_options.ensures refl c.in_ok-add_line.ensures.ok
