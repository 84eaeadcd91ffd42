use Rattle.std.specs.Prelude.{◌≡◌, length}
use Rattle.std.proofs.Common.{arith, ap}
use Rattle.server_core.proofs.ToldJoined.{tells-more, tells-all}
use Rattle.server_core.proofs.server.ServerCore.tell_joined.Goals as goal

pub loop-index-preserved : goal.loop-index-preserved
loop-index-preserved c = tells-more c.args.self.now c.loop-index.self c.tell_if_joined.new.self c.loop-index.index c.args.message.now c.loop-index.invariant c.in_ok-tell_if_joined.ensures

pub returns : goal.returns
returns c =
    let most = c.loop-index.auto.index-end in
    let over = c.loop-index-test.false in
    let table = ap length c.as_slice-most.ensures in
    let end : c.loop-index.index ≡ length c.args.self.now.table = omega (arith, table) in
    tells-all c.args.self.now c.loop-index.self c.loop-index.index c.args.message.now end c.loop-index.invariant
