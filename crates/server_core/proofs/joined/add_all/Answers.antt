use Rattle.std.proofs.Common.{arith}
use Rattle.connection_table.specs.Tables.{is_joined_as}
use Rattle.server_core.proofs.JoinedScreens.{one-more, none-more}
use Rattle.server_core.proofs.joined.add_all.Goals as goal

pub loop-connection-preserved : goal.loop-connection-preserved
loop-connection-preserved c = λ k. one-more (is_joined_as k) c.args.connections.now c.loop-connection.connection-index _ _ _ _ c.loop-connection-test.true c.connection-item.is (c.add_one.ensures k) (c.loop-connection.invariant k)

pub returns : goal.returns
returns c = λ k. none-more (is_joined_as k) c.args.connections.now c.loop-connection.connection-index _ _ (omega (arith, c.loop-connection-test.false)) (c.loop-connection.invariant k)
