use Rattle.config_text.proofs.SpelledLinks.{link_takes, link_again}
use Rattle.config_text.proofs.laws.links_are_spelled.Goals as goal

pub returns : goal.returns
returns c = record {
  spelled = link_takes;
  read = link_again;
}
