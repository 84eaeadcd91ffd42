use Rattle.std.proofs.Common.{rules}
use Rattle.client_core.proofs.Hearers.{applies_none}
use Rattle.client_core.proofs.hearer.Hearer.hear.Goals as goal

pub returns-in-None : goal.returns-in-None
returns-in-None c = applies_none c.args.self.now _ c.hear.result c.args.msg.now (search rules) (search rules) c.hear.ensures.ok c.hear.ensures.err
