use Rattle.clip_chunks.proofs.Origins.{known_were_brought as law}
use Rattle.clip_chunks.proofs.laws.known_were_brought.Goals as goal

pub returns : goal.returns
returns c = law
