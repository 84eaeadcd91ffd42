use Rattle.attentive_acts.proofs.Quit.{closed-on-quit}
use Rattle.attentive_acts.proofs.laws.closed_on_quit.Goals as goal

pub returns : goal.returns
returns c = closed-on-quit
