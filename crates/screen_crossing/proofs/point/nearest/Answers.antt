use Rattle.std.proofs.Common.{rules}
use Rattle.edge_cross.proofs.Pixels.{last_pixel}
use Rattle.screen_crossing.proofs.Stored.{nearest_computed}
use Rattle.screen_crossing.proofs.point.nearest.Goals as goal

pub returns-clause-value : goal.returns-clause-value
returns-clause-value c =
    nearest_computed c.args.at c.args.first c.args.size c.clamp.result _ (search rules) (search rules) (search rules)
    (last_pixel c.args.first c.args.size (search rules) (search rules) c.requires.from c.requires.some c.requires.upto) c.clamp.ensures.value
