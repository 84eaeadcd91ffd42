use Rattle.clip_chunks.proofs.Full.{is_cut as law}
use Rattle.clip_chunks.proofs.laws.chunks_are_full.Goals as goal

pub returns : goal.returns
returns c = law
