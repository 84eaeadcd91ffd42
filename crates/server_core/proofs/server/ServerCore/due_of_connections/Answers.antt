use Rattle.std.proofs.Common.{arith}
use Rattle.server_core.proofs.DueOnes.{due-next, due-all}
use Rattle.server_core.proofs.server.ServerCore.due_of_connections.Goals as goal

pub loop-connection-preserved : goal.loop-connection-preserved
loop-connection-preserved c = due-next c.args.self.now c.as_slice-connection-items.result.now c.loop-connection.connection-index c.loop-connection.least c.earlier-least.result c.connection-item.result c.due.result c.as_slice-connection-items.ensures c.loop-connection-test.true c.connection-item.is c.loop-connection.invariant c.due.ensures c.earlier-least.ensures

pub returns : goal.returns
returns c = due-all c.args.self.now c.as_slice-connection-items.result.now c.loop-connection.connection-index c.loop-connection.least c.as_slice-connection-items.ensures (omega (arith, c.loop-connection-test.false)) c.loop-connection.invariant
