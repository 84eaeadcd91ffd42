use Rattle.std.proofs.Common.{arith}
use Rattle.server_core.specs.Using.{is_using}
use Rattle.server_core.proofs.JoinedScreens.{one-more, none-more}
use Rattle.server_core.proofs.hello.add_used.Goals as goal

pub loop-connection-preserved : goal.loop-connection-preserved
loop-connection-preserved c = λ k. one-more (is_using k) c.args.connections.now c.loop-connection.connection-index _ _ _ _ c.loop-connection-test.true c.connection-item.is (c.add_one_used.ensures k) (c.loop-connection.invariant k)

pub returns : goal.returns
returns c = λ k. none-more (is_using k) c.args.connections.now c.loop-connection.connection-index _ _ (omega (arith, c.loop-connection-test.false)) (c.loop-connection.invariant k)
