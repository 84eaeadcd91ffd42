use Rattle.std.proofs.Common.{arith}
use Rattle.server_core.proofs.DueOnes.{closing-item, closing-next, closing-none}
use Rattle.server_core.proofs.server.ServerCore.first_closing.Goals as goal

pub returns-then-is_to_close : goal.returns-then-is_to_close
returns-then-is_to_close c = closing-item c.args.self.now c.as_slice-connection-items.result.now c.loop-connection.connection-index c.moment.result c.serial.result c.connection-item.result c.is_to_close.result c.if-is_to_close.true c.serial.ensures c.moment.ensures.moment c.as_slice-connection-items.ensures c.loop-connection-test.true c.connection-item.is c.loop-connection.invariant c.is_to_close.ensures

pub loop-connection-preserved : goal.loop-connection-preserved
loop-connection-preserved c = closing-next c.args.self.now c.as_slice-connection-items.result.now c.loop-connection.connection-index c.moment.result c.connection-item.result c.is_to_close.result c.if-is_to_close.false c.moment.ensures.moment c.as_slice-connection-items.ensures c.loop-connection-test.true c.connection-item.is c.loop-connection.invariant c.is_to_close.ensures

pub returns : goal.returns
returns c = closing-none c.args.self.now c.as_slice-connection-items.result.now c.loop-connection.connection-index c.as_slice-connection-items.ensures (omega (arith, c.loop-connection-test.false)) c.loop-connection.invariant
