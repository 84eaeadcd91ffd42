use Rattle.server_core.proofs.Indexed.{read-some, read-none}
use Rattle.server_core.proofs.Goodbyes.{bye-none, bye-some}
use Rattle.server_core.proofs.server.ServerCore.say_bye_at.Goals as goal

pub returns : goal.returns
returns c =
    let look = c.in-Some.ensures.lookup in
    bye-some c.args.self.now c.say_bye.new.self c.args.index c.serial-serial.result c.in-Some.connection.now (read-some c.as_slice.result.now c.args.self.now.table c.args.index c.in-Some.connection.now c.as_slice.ensures look.3.0 look.1) c.serial-serial.ensures c.in_ok-say_bye.ensures

pub returns-in_default : goal.returns-in_default
returns-in_default c = bye-none c.args.self.now c.args.index (read-none c.as_slice.result.now c.args.self.now.table c.args.index c.as_slice.ensures c.in_default.ensures.lookup.3)
