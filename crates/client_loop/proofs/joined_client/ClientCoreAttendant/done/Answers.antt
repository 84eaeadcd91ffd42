use Rattle.client_loop.proofs.JoinedClients.{done-joined}
use Rattle.client_loop.proofs.joined_client.ClientCoreAttendant.done.Goals as goal

pub returns : goal.returns
returns c = done-joined c.args.self.now c.done.result c.done.ensures
