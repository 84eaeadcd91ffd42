use Rattle.config_text.proofs.Spelled.{section_takes, section_again}
use Rattle.config_text.proofs.laws.sections_are_spelled.Goals as goal

pub returns : goal.returns
returns c = record {
  spelled = section_takes;
  read = section_again;
}
