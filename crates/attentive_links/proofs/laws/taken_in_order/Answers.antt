use Rattle.attentive_links.proofs.ActByAct.{taken-in-order}
use Rattle.attentive_links.proofs.laws.taken_in_order.Goals as goal

pub returns : goal.returns
returns c = taken-in-order
