use Rattle.attentive_acts.proofs.Closings.{all-taken-at-closings}
use Rattle.attentive_acts.proofs.laws.all_taken_at_closings.Goals as goal

pub returns : goal.returns
returns c = all-taken-at-closings
