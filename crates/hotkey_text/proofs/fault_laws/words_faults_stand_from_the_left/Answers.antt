use Rattle.hotkey_text.proofs.FaultsFromTheLeft.{line_from_left}
use Rattle.hotkey_text.proofs.fault_laws.words_faults_stand_from_the_left.Goals as goal

pub returns : goal.returns
returns c = line_from_left
