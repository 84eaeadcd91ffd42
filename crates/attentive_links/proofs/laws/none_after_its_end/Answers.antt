use Rattle.attentive_links.specs.Judging.{first_judge}
use Rattle.attentive_links.proofs.ActByAct.{none-after-its-end}
use Rattle.attentive_links.proofs.laws.none_after_its_end.Goals as goal

pub returns : goal.returns
returns c = λ first before after a goes f. none-after-its-end (first_judge first) before after a goes f
