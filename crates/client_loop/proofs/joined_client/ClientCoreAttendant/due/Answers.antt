use Rattle.client_loop.proofs.JoinedClients.{due-joined}
use Rattle.client_loop.proofs.joined_client.ClientCoreAttendant.due.Goals as goal

pub returns : goal.returns
returns c = due-joined c.args.self.now c.due.result c.due.ensures
