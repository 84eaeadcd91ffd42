use Rattle.message_codec.proofs.RefusalLaws as law
use Rattle.message_codec.proofs.laws.refused_spells_none.Goals as goal

pub returns : goal.returns
returns c = law.refused_spells_none
