use Rattle.std.proofs.Common.{ap, ◌∙◌}
use Rattle.machine.specs.Edges.{landing}
use Rattle.screen_crossing.proofs.Shown.{cursor_shown}
use Rattle.screen_crossing.proofs.surroundings.Surroundings.landing_at_cursor.Goals as goal

pub returns-clause-landing : goal.returns-clause-landing
returns-clause-landing c = λ s shows.
    c.landing.ensures.landing s shows ∙ ap (landing s) (c.edge_at.ensures.edge ∙ cursor_shown c.args.self.now c.args.config.now s shows c.args.side)
