use Rattle.attentive_acts.proofs.TakenOnQuit.{all-taken-on-quit}
use Rattle.attentive_acts.proofs.laws.all_taken_on_quit.Goals as goal

pub returns : goal.returns
returns c = all-taken-on-quit
