use Rattle.std.specs.Prelude.{◌≡◌, length}
use Rattle.std.proofs.Common.{arith, ap}
use Rattle.server_core.proofs.Timed.{timed-more, timed-all}
use Rattle.server_core.proofs.server.ServerCore.timers.Goals as goal

pub loop-place-preserved : goal.loop-place-preserved
loop-place-preserved c = timed-more c.args.self.now c.loop-place.self c.timer_at.new.self c.args.timer c.loop-place.place c.loop-place.invariant c.in_ok-timer_at.ensures

pub returns : goal.returns
returns c =
    let most = c.loop-place.auto.place-end in
    let over = c.loop-place-test.false in
    let end : c.loop-place.place ≡ length c.as_slice-count.result.now = omega arith in
    timed-all c.args.self.now c.loop-place.self c.args.timer c.loop-place.place (length c.as_slice-count.result.now) end (ap length c.as_slice-count.ensures) c.loop-place.invariant
