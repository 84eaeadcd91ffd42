use Rattle.std.proofs.Common.{rules}
use Rattle.screen_crossing.proofs.Stored.{nearest_stored}
use Rattle.screen_crossing.proofs.Places.{same_point}
use Rattle.screen_crossing.proofs.point.clamped.Goals as goal

pub returns-clause-value : goal.returns-clause-value
returns-clause-value c =
    same_point _ _ _ _
    (nearest_stored c.args.point.x c.args.shape.now.x c.args.shape.now.w c.nearest.result (search rules) (search rules) (search rules) (search rules) c.nearest.ensures.value)
    (nearest_stored c.args.point.y c.args.shape.now.y c.args.shape.now.h c.nearest-2.result (search rules) (search rules) (search rules) (search rules) c.nearest-2.ensures.value)
