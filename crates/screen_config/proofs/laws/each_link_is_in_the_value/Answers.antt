use Rattle.screen_config.proofs.LinkValues.{link_in_value}
use Rattle.screen_config.proofs.laws.each_link_is_in_the_value.Goals as goal

pub returns : goal.returns
returns c = link_in_value
