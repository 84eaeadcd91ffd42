use Rattle.message_codec.proofs.RefusalLaws as law
use Rattle.message_codec.proofs.laws.spelled_is_decoded.Goals as goal

pub returns : goal.returns
returns c = law.spelled_is_decoded
