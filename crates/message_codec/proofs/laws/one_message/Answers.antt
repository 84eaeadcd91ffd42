use Rattle.message_codec.proofs.Bodies as law
use Rattle.message_codec.proofs.laws.one_message.Goals as goal

pub returns : goal.returns
returns c = law.one_message
