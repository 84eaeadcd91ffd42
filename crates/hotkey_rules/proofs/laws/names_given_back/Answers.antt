use Rattle.hotkey_rules.proofs.KeyRows as law
use Rattle.hotkey_rules.proofs.laws.names_given_back.Goals as goal

pub returns : goal.returns
returns c = record { named = law.name_back; names = law.id_back }
