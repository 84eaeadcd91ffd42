use Rattle.hotkey_rules.proofs.KeyRows as law
use Rattle.hotkey_rules.proofs.laws.row_found.Goals as goal

pub returns : goal.returns
returns c = record {
  by_name = λ name id. (law.named name id, law.names name id);
  by_id = λ id name. (law.has_name id name, law.gives_name id name);
}
