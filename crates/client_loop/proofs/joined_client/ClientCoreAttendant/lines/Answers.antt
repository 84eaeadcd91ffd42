use Rattle.client_loop.proofs.JoinedClients.{prints-joined}
use Rattle.client_loop.proofs.joined_client.ClientCoreAttendant.lines.Goals as goal

pub returns-clause-prints : goal.returns-clause-prints
returns-clause-prints c = prints-joined c.args.self.now c.lines.result.now c.lines.ensures
