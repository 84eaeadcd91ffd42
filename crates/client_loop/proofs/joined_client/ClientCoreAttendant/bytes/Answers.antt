use Rattle.client_loop.proofs.JoinedClients.{may-hear, gets-joined}
use Rattle.client_loop.proofs.joined_client.ClientCoreAttendant.bytes.Goals as goal

pub bytes-requires : goal.bytes-requires
bytes-requires c = may-hear c.args.self.now c.args.piece.now c.requires

pub returns : goal.returns
returns c = gets-joined c.args.self.now c.bytes.new.self c.bytes.result c.args.piece.now c.bytes.ensures.gets
