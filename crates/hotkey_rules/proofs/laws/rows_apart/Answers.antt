use Rattle.hotkey_rules.proofs.KeyRows as law
use Rattle.hotkey_rules.proofs.laws.rows_apart.Goals as goal

pub returns : goal.returns
returns c = law.rows_apart
