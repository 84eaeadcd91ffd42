use Rattle.client_loop.proofs.JoinedClients.{may-lose, took-joined}
use Rattle.client_loop.proofs.joined_client.ClientCoreAttendant.taken.Goals as goal

pub taken-requires : goal.taken-requires
taken-requires c = may-lose c.args.self.now c.args.count c.requires

pub returns : goal.returns
returns c = took-joined c.args.self.now c.taken.new.self c.args.count c.taken.ensures
