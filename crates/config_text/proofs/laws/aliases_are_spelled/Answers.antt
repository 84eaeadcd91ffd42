use Rattle.config_text.proofs.Spelled.{alias_takes, alias_again}
use Rattle.config_text.proofs.laws.aliases_are_spelled.Goals as goal

pub returns : goal.returns
returns c = record {
  spelled = alias_takes;
  read = alias_again;
}
