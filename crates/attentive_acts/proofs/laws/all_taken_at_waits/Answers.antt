use Rattle.attentive_acts.proofs.TakenAtWaits.{all-taken-at-waits}
use Rattle.attentive_acts.proofs.laws.all_taken_at_waits.Goals as goal

pub returns : goal.returns
returns c = all-taken-at-waits
