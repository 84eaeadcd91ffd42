use Rattle.edge_cross.proofs.PassedEdges as law
use Rattle.edge_cross.proofs.laws.edge_is_passed.Goals as goal

pub returns : goal.returns
returns c = law.edge_is_passed
