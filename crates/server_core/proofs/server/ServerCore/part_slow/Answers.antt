use Rattle.std.specs.Prelude.{◌≡◌, ◌≤◌, false, length}
use Rattle.std.proofs.Common.{arith, rules, ap}
use Rattle.server_core.proofs.SlowTurns.{turns-more, turns-all, turns-over}
use Rattle.server_core.proofs.server.ServerCore.part_slow.Goals as goal

pub loop-turn-preserved : goal.loop-turn-preserved
loop-turn-preserved c = turns-more c.args.self.now c.loop-turn.self c.part_first_slow.new.self c.loop-turn.turn c.loop-turn.invariant c.in_ok-more.ensures.leads

pub returns-then-not-more : goal.returns-then-not-more
returns-then-not-more c =
    let off : c.in_ok-more.more ≡ false = c.if-not-more.true in
    let le : c.loop-turn.turn ≤ length c.as_slice-most.result.now = search rules in
    turns-over c.args.self.now c.loop-turn.self c.part_first_slow.new.self c.loop-turn.turn (length c.as_slice-most.result.now) le (ap length c.as_slice-most.ensures) c.loop-turn.invariant c.in_ok-more.ensures.leads (c.in_ok-more.ensures.none off)

pub returns : goal.returns
returns c =
    let most = c.loop-turn.auto.turn-end in
    let over = c.loop-turn-test.false in
    let end : c.loop-turn.turn ≡ length c.as_slice-most.result.now = omega arith in
    turns-all c.args.self.now c.loop-turn.self c.loop-turn.turn (length c.as_slice-most.result.now) end (ap length c.as_slice-most.ensures) c.loop-turn.invariant
