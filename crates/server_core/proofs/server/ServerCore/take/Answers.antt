use Rattle.server_core.proofs.Happened.{room-left}
use Rattle.server_core.proofs.server.ServerCore.take.Goals as goal

pub takes-requires-clause-fits : goal.takes-requires-clause-fits
takes-requires-clause-fits c = room-left c.args.self.now c.args.serial c.args.count c.assure_room.ensures c.requires
