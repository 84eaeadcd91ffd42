use Rattle.attentive_links.proofs.ActByAct.{lead-by-happenings}
use Rattle.attentive_links.proofs.laws.lead_by_happenings.Goals as goal

pub returns : goal.returns
returns c = lead-by-happenings
