use Rattle.client_loop.proofs.JoinedClients.{passes-joined}
use Rattle.client_loop.proofs.joined_client.ClientCoreAttendant.moment.Goals as goal

pub returns : goal.returns
returns c = passes-joined c.args.self.now c.moment.new.self c.moment.result c.args.moment c.moment.ensures.passes c.moment.ensures.stops
