use Rattle.client_loop.proofs.JoinedClients.{queued-joined}
use Rattle.client_loop.proofs.joined_client.ClientCoreAttendant.queued.Goals as goal

pub returns : goal.returns
returns c = queued-joined c.args.self.now c.queued.result.now c.queued.ensures
