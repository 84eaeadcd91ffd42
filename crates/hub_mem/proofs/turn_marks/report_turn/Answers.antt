use Rattle.std.proofs.Common.{arith, length, ◌<◌}
use Rattle.hub_mem.proofs.FewMarks.{few-marks}
use Rattle.hub_mem.proofs.turn_marks.report_turn.Goals as goal

pub report_one-requires : goal.report_one-requires
report_one-requires c =
    let below : c.loop-serial.serial-index < length c.args.serials.now = omega arith in
    few-marks c.args.turn.now c.args.serials.now c.loop-serial.serial-index c.loop-serial.ready c.loop-serial.invariant below c.requires.few
