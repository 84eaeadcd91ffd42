use Rattle.std.proofs.Common.{rules}
use Rattle.edge_cross.proofs.Pixels.{counted_from}
use Rattle.screen_crossing.proofs.point.along.Goals as goal

pub returns-clause-value : goal.returns-clause-value
returns-clause-value c =
    (counted_from c.args.at c.args.first c.args.size c.clamp.result (search rules) (search rules) (search rules) (search rules) c.requires.from c.requires.some c.requires.small c.requires.upto c.clamp.ensures.value c.clamp.ensures.lower_bound c.clamp.ensures.upper_bound).0

pub returns-clause-within : goal.returns-clause-within
returns-clause-within c =
    (counted_from c.args.at c.args.first c.args.size c.clamp.result (search rules) (search rules) (search rules) (search rules) c.requires.from c.requires.some c.requires.small c.requires.upto c.clamp.ensures.value c.clamp.ensures.lower_bound c.clamp.ensures.upper_bound).1
