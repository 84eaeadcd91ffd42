use Rattle.config_text.proofs.NormalByValue.{normal_by_value}
use Rattle.config_text.proofs.verdict_laws.normal_form_is_of_the_value.Goals as goal

pub returns : goal.returns
returns c = normal_by_value
