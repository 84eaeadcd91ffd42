use Rattle.std.proofs.Common.{arith}
use Rattle.share_base.proofs.FlatMaps.{part_added}
use Rattle.option_table.specs.Printed.{corner_text, single_corners}
use Rattle.option_table.proofs.printing.put_corners.Goals as goal

pub loop-corner-preserved : goal.loop-corner-preserved
loop-corner-preserved c =
    part_added (corner_text c.args.set) single_corners c.loop-corner.corner-index _
    c.loop-corner.out c.put_corner.new.out _
    (omega arith) c.loop-corner.invariant c.in_ok-put_corner.ensures
