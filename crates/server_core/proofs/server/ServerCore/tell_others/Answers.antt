use Rattle.machine.specs.Targets.{Own}
use Rattle.server_core.proofs.TellOthers.{all-told}
use Rattle.server_core.proofs.server.ServerCore.tell_others.Goals as goal

pub returns : goal.returns
returns c = all-told c.args.self.now c.route.new.self c.tell_other_clients.new.self c.args.serial c.args.message.now (c.in_ok-route.ensures Own) c.in_ok-tell_other_clients.ensures
