use Rattle.message_codec.proofs.Readers.{all-IsBytes}
use Rattle.message_codec.proofs.HasVerdict as law
use Rattle.message_codec.proofs.laws.each_has_a_verdict.Goals as goal

pub returns : goal.returns
returns c reader stream bytes = law.each_has_a_verdict reader stream (all-IsBytes stream bytes)
