use Rattle.std.proofs.Common.{ap, ◌∙◌}
use Rattle.machine.specs.Edges.{way}
use Rattle.screen_crossing.proofs.Shown.{cursor_shown}
use Rattle.screen_crossing.proofs.surroundings.Surroundings.way_at_cursor.Goals as goal

pub returns-clause-way : goal.returns-clause-way
returns-clause-way c = λ s shows.
    c.way_at.ensures.way s shows ∙ ap (way s) (c.edge_at.ensures.edge ∙ cursor_shown c.args.self.now c.args.config.now s shows c.args.side)
