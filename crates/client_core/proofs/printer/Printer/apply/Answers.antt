use Rattle.client_core.proofs.Screens.{turns-roomy}
use Rattle.client_core.proofs.printer.Printer.apply.Goals as goal

pub returns-clause-ok : goal.returns-clause-ok
returns-clause-ok c = turns-roomy _ c.args.self.now c.make_room.new.self c.apply_in_room.new.self c.make_room.ensures.same c.apply_in_room.ensures
