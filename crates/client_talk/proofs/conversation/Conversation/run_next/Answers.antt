use Rattle.std.proofs.Common.{rules}
use Rattle.client_talk.proofs.Lines.{none_may}
use Rattle.client_talk.proofs.conversation.Conversation.run_next.Goals as goal

pub returns-then-not-may_run-clause-ok : goal.returns-then-not-may_run-clause-ok
returns-then-not-may_run-clause-ok c = none_may c.args.self.now (search rules)
