use Rattle.std.proofs.Common.{rules}
use Rattle.client_talk.proofs.Names.{short-answer}
use Rattle.client_talk.proofs.messages.hello_back.Goals as goal

pub returns-clause-short : goal.returns-clause-short
returns-clause-short c = short-answer c.args.name.now c.extend.new.self c.as_slice.ensures.named (search rules)
