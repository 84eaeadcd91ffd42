use Rattle.message_codec.proofs.Readers.{all-IsBytes}
use Rattle.message_codec.proofs.SpelledOrRefused as law
use Rattle.message_codec.proofs.laws.spelled_or_refused.Goals as goal

pub returns : goal.returns
returns c from body bytes = law.spelled_or_refused from body (all-IsBytes body bytes)
