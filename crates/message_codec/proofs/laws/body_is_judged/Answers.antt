use Rattle.message_codec.proofs.Readers.{all-IsBytes}
use Rattle.message_codec.proofs.BodyVerdicts as law
use Rattle.message_codec.proofs.laws.body_is_judged.Goals as goal

pub returns : goal.returns
returns c = λ from body bytes. law.body-verdict from body (all-IsBytes body bytes)
