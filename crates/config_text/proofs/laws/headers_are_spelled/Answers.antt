use Rattle.config_text.proofs.Spelled.{header_takes, header_again}
use Rattle.config_text.proofs.laws.headers_are_spelled.Goals as goal

pub returns : goal.returns
returns c = record {
  spelled = header_takes;
  read = header_again;
}
