use Rattle.config_text.proofs.StopsLinks.{link_without_side, link_stops}
use Rattle.config_text.proofs.laws.links_stop_where_they_cannot_go_on.Goals as goal

pub returns : goal.returns
returns c = record { no_side = link_without_side; side = link_stops }
