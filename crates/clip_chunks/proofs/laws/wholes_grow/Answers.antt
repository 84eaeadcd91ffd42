use Rattle.clip_chunks.proofs.WholesGrow.{wholes_grow as law}
use Rattle.clip_chunks.proofs.laws.wholes_grow.Goals as goal

pub returns : goal.returns
returns c = law
