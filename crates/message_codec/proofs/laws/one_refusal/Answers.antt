use Rattle.message_codec.proofs.RefusalLaws as law
use Rattle.message_codec.proofs.laws.one_refusal.Goals as goal

pub returns : goal.returns
returns c = law.one_refusal
