use Rattle.screen_crossing.proofs.Stored.{middle_small}
use Rattle.screen_crossing.proofs.Places.{same_point}
use Rattle.screen_crossing.proofs.point.middle.Goals as goal

pub returns-clause-value : goal.returns-clause-value
returns-clause-value c =
    same_point _ _ _ _ (middle_small c.args.shape.now.x c.args.shape.now.w c.requires.first_column c.requires.wide c.requires.width c.requires.columns)
    (middle_small c.args.shape.now.y c.args.shape.now.h c.requires.first_row c.requires.high c.requires.height c.requires.rows)
