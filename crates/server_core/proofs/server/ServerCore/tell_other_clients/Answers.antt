use Rattle.std.specs.Prelude.{◌≡◌, length}
use Rattle.std.proofs.Common.{arith, ap, ◌∙◌}
use Rattle.server_core.proofs.TellOthers.{others-none, others-more, others-all}
use Rattle.server_core.proofs.server.ServerCore.tell_other_clients.Goals as goal

pub loop-index-init : goal.loop-index-init
loop-index-init c = others-none c.args.self.now c.args.serial c.args.message.now

pub loop-index-preserved : goal.loop-index-preserved
loop-index-preserved c = others-more c.args.self.now c.loop-index.self c.tell_if_other.new.self c.args.serial c.loop-index.index c.args.message.now c.loop-index.invariant c.in_ok-tell_if_other.ensures

pub returns : goal.returns
returns c =
    let most = c.loop-index.auto.index-end in
    let over = c.loop-index-test.false in
    let end : c.loop-index.index ≡ length c.as_slice-most.result.now = omega arith in
    others-all c.args.self.now c.loop-index.self c.args.serial c.loop-index.index c.args.message.now (end ∙ ap length c.as_slice-most.ensures) c.loop-index.invariant
