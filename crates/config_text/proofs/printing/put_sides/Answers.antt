use Rattle.std.proofs.Common.{arith}
use Rattle.share_base.proofs.FlatMaps.{part_added}
use Rattle.config_text.specs.Normal.{side_links}
use Rattle.share_base.specs.Sides.{sides}
use Rattle.config_text.proofs.printing.put_sides.Goals as goal

pub loop-side-preserved : goal.loop-side-preserved
loop-side-preserved c =
    part_added (side_links c.args.config.now c.args.from) sides c.loop-side.side-index _
    c.loop-side.out c.put_side.new.out _
    (omega arith) c.loop-side.invariant c.in_ok-put_side.ensures
