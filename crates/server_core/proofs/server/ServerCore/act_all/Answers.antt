use Rattle.std.proofs.Common.{arith}
use Rattle.std.proofs.lemmas.List.{get_or_default}
use Rattle.server_core.proofs.ActedAll.{acts-more, acts-all}
use Rattle.server_core.proofs.server.ServerCore.act_all.Goals as goal

pub loop-action-preserved : goal.loop-action-preserved
loop-action-preserved c = acts-more c.args.self.now c.loop-action.self c.act.new.self c.args.list.now c.loop-action.action-index _ c.loop-action-test.true (get_or_default c.args.list.now c.loop-action.action-index _ _ c.loop-action-test.true) c.loop-action.invariant c.in_ok-act.ensures

pub returns : goal.returns
returns c = acts-all c.args.self.now c.loop-action.self c.args.list.now c.loop-action.action-index (omega (arith, c.loop-action-test.false)) c.loop-action.invariant
