use Rattle.wire_frames.proofs.Holds as law
use Rattle.wire_frames.proofs.laws.holds_little.Goals as goal

pub returns : goal.returns
returns c = law.holds_little
