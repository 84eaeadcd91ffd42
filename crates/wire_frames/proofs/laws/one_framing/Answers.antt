use Rattle.wire_frames.proofs.OneFraming as law
use Rattle.wire_frames.proofs.laws.one_framing.Goals as goal

pub returns : goal.returns
returns c = law.one_framing
