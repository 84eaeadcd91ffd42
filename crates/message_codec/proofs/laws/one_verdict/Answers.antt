use Rattle.message_codec.proofs.OneVerdict as law
use Rattle.message_codec.proofs.laws.one_verdict.Goals as goal

pub returns : goal.returns
returns c = law.one_verdict
