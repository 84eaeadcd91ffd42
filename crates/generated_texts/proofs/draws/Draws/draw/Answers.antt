use Rattle.generated_texts.proofs.DrawSteps.{one_draw, first_drawn}
use Rattle.generated_texts.proofs.draws.Draws.draw.Goals as goal

pub returns-clause-drawn : goal.returns-clause-drawn
returns-clause-drawn c = first_drawn c.args.self.now.state c.next_state-self.result c.args.limit
    c.from.result c.next_state-self.ensures c.from.ensures

pub returns-clause-state : goal.returns-clause-state
returns-clause-state c = one_draw c.args.self.now.state c.next_state-self.result
    c.next_state-self.ensures
