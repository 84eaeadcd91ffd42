use Rattle.attentive_acts.proofs.ReachedActs.{attentive-is-reached}
use Rattle.attentive_acts.proofs.laws.attentive_is_reached.Goals as goal

pub returns : goal.returns
returns c = attentive-is-reached
