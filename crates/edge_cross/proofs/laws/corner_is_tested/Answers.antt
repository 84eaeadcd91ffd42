use Rattle.edge_cross.proofs.PassedEdges as law
use Rattle.edge_cross.proofs.laws.corner_is_tested.Goals as goal

pub returns : goal.returns
returns c = law.corner_is_tested
