use Rattle.client_loop.proofs.JoinedClients.{clears-joined}
use Rattle.client_loop.proofs.joined_client.ClientCoreAttendant.clear_lines.Goals as goal

pub returns-clause-clears : goal.returns-clause-clears
returns-clause-clears c = clears-joined c.args.self.now c.clear_lines.new.self c.clear_lines.ensures.clears
