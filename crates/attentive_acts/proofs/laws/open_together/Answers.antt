use Rattle.attentive_acts.proofs.OpenTogether.{open-together}
use Rattle.attentive_acts.proofs.laws.open_together.Goals as goal

pub returns : goal.returns
returns c = open-together
