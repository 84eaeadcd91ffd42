use Rattle.wire_frames.proofs.HoweverCut as law
use Rattle.wire_frames.proofs.laws.however_cut.Goals as goal

pub returns : goal.returns
returns c = law.however_cut
