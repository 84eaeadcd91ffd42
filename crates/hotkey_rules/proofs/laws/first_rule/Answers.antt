use Rattle.hotkey_rules.proofs.FirstRules.{found, finds, none_has, finds_none}
use Rattle.hotkey_rules.proofs.laws.first_rule.Goals as goal

pub returns : goal.returns
returns c = record {
  found = λ rules t number. (found rules t number, finds rules t number);
  none = λ rules t. (none_has rules t, finds_none rules t);
}
