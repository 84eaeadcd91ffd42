use Rattle.generated_texts.proofs.DrawSteps.{next_by_parts}
use Rattle.generated_texts.proofs.draws.next_state.Goals as goal

pub returns : goal.returns
returns c = next_by_parts c.args.state
