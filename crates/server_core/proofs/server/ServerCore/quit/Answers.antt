use Rattle.std.specs.Prelude.{◌≡◌, length}
use Rattle.std.proofs.Common.{arith, ap}
use Rattle.server_core.proofs.Goodbyes.{byes-none, byes-more, byes-all}
use Rattle.server_core.proofs.server.ServerCore.quit.Goals as goal

pub loop-index-init : goal.loop-index-init
loop-index-init c = byes-none c.args.self.now

pub loop-index-preserved : goal.loop-index-preserved
loop-index-preserved c = byes-more c.args.self.now c.loop-index.self c.say_bye_at.new.self c.loop-index.index c.loop-index.invariant c.in_ok-say_bye_at.ensures

pub returns : goal.returns
returns c =
    let most = c.loop-index.auto.index-end in
    let over = c.loop-index-test.false in
    let table = ap length c.as_slice-most.ensures in
    let end : c.loop-index.index ≡ length c.args.self.now.table = omega (arith, table) in
    byes-all c.args.self.now c.loop-index.self c.loop-index.index end c.loop-index.invariant
