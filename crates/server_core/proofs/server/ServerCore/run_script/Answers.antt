use Rattle.std.specs.Prelude.{◌≤◌, length}
use Rattle.std.proofs.Common.{arith, ap}
use Rattle.server_core.proofs.ScriptTurns.{runs-none, runs-more, runs-over, runs-all}
use Rattle.server_core.proofs.server.ServerCore.run_script.Goals as goal

pub loop-turn-init : goal.loop-turn-init
loop-turn-init c = runs-none c.args.self.now

pub loop-turn-preserved : goal.loop-turn-preserved
loop-turn-preserved c = runs-more c.args.self.now c.loop-turn.self c.run_next.new.self c.loop-turn.turn c.may_run_next.result c.loop-turn.invariant c.if-not-may_run_next.false c.may_run_next.ensures c.in_ok-run_next.ensures

pub returns-then-not-may_run_next : goal.returns-then-not-may_run_next
returns-then-not-may_run_next c = runs-over c.args.self.now c.loop-turn.self c.loop-turn.turn c.may_run_next.result c.loop-turn.invariant c.if-not-may_run_next.true c.may_run_next.ensures

pub returns : goal.returns
returns c =
    let most = c.loop-turn.auto.turn-end in
    let over = c.loop-turn-test.false in
    let lines = ap length c.lines-most.ensures.lines in
    let end : length c.args.self.now.script.lines ≤ c.loop-turn.turn = omega (arith, lines) in
    runs-all c.args.self.now c.loop-turn.self c.loop-turn.turn end c.loop-turn.invariant
