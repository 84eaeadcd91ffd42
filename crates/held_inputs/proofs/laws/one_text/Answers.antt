use Rattle.held_inputs.proofs.LineTexts.{one_text, one_list}
use Rattle.held_inputs.proofs.laws.one_text.Goals as goal

pub returns : goal.returns
returns c = record { line = one_text; list = one_list }
