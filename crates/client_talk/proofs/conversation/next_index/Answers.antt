use Rattle.client_talk.proofs.Lines.{drop-one}
use Rattle.client_talk.proofs.conversation.next_index.Goals as goal

pub returns-then-index-lines : goal.returns-then-index-lines
returns-then-index-lines c = drop-one c.args.lines.now c.args.index
