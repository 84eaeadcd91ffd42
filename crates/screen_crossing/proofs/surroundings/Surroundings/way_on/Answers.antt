use Rattle.std.proofs.Common.{◌≡◌, sym, ap, ◌∙◌, rules}
use Rattle.std.specs.Option.{option_and_then}
use Rattle.edge_cross.specs.PassedEdges.{edge_passed}
use Rattle.edge_cross.proofs.PassedEdges.{edge_is_passed}
use Rattle.machine.specs.Edges.{way}
use Rattle.screen_crossing.specs.Points.{point_of}
use Rattle.screen_crossing.proofs.OneEdge.{one_edge, leaves_stored}
use Rattle.screen_crossing.proofs.Shown.{passed_shown}
use Rattle.screen_crossing.proofs.surroundings.Surroundings.way_on.Goals as goal

pub returns-in-Some-clause-way : goal.returns-in-Some-clause-way
returns-in-Some-clause-way c = λ s shows.
    let found : edge_passed c.args.axis c.args.self.now.shape c.args.point.x c.args.point.y ≡ c.leaves.result =
    one_edge c.args.axis c.args.self.now.shape c.args.point.x c.args.point.y c.requires.shape _ _ (edge_is_passed c.args.axis c.args.self.now.shape c.args.point.x c.args.point.y)
    (leaves_stored c.leaves.result c.args.axis c.args.self.now.shape c.args.point.x c.args.point.y (search rules) (search rules) c.leaves.ensures.leaves) in
    c.way_at.ensures.way s shows
    ∙ ap (option_and_then (way s)) (sym c.in-Some.is ∙ sym found ∙ passed_shown c.args.self.now c.args.config.now s shows (point_of c.args.point) c.args.axis)

pub returns-in-None-clause-way : goal.returns-in-None-clause-way
returns-in-None-clause-way c = λ s shows.
    let found : edge_passed c.args.axis c.args.self.now.shape c.args.point.x c.args.point.y ≡ c.leaves.result =
    one_edge c.args.axis c.args.self.now.shape c.args.point.x c.args.point.y c.requires.shape _ _ (edge_is_passed c.args.axis c.args.self.now.shape c.args.point.x c.args.point.y)
    (leaves_stored c.leaves.result c.args.axis c.args.self.now.shape c.args.point.x c.args.point.y (search rules) (search rules) c.leaves.ensures.leaves) in
    ap (option_and_then (way s)) (sym c.in-None.is ∙ sym found ∙ passed_shown c.args.self.now c.args.config.now s shows (point_of c.args.point) c.args.axis)
