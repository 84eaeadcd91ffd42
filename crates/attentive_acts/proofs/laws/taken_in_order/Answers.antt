use Rattle.attentive_acts.proofs.TakenPrefixes.{taken-in-order}
use Rattle.attentive_acts.proofs.laws.taken_in_order.Goals as goal

pub returns : goal.returns
returns c = taken-in-order
