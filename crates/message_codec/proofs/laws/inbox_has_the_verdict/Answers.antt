use Rattle.message_codec.proofs.InboxVerdicts as law
use Rattle.message_codec.proofs.laws.inbox_has_the_verdict.Goals as goal

pub returns : goal.returns
returns c = law.inbox-verdict
