use Rattle.client_loop.proofs.JoinedClients.{releases-joined}
use Rattle.client_loop.proofs.joined_client.ClientCoreAttendant.ended.Goals as goal

pub returns : goal.returns
returns c = releases-joined c.args.self.now c.ended.result c.ended.ensures.released
