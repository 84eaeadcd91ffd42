use Rattle.config_text.proofs.Spelled.{setting_takes, setting_again}
use Rattle.config_text.proofs.laws.settings_are_spelled.Goals as goal

pub returns : goal.returns
returns c = record {
  spelled = setting_takes;
  read = setting_again;
}
