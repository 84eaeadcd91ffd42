use Rattle.client_loop.proofs.JoinedClients.{at-joined}
use Rattle.client_loop.proofs.joined_client.ClientCoreAttendant.at.Goals as goal

pub returns : goal.returns
returns c = at-joined c.args.self.now c.at.result c.at.ensures
