use Rattle.screen_config.proofs.LinkValues.{alias_in_value}
use Rattle.screen_config.proofs.laws.each_alias_is_in_the_value.Goals as goal

pub returns : goal.returns
returns c = alias_in_value
