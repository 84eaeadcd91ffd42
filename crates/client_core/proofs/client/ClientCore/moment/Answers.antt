use Rattle.std.proofs.Common.{rules}
use Rattle.client_core.proofs.Moments.{passes_ok}
use Rattle.client_core.proofs.client.ClientCore.moment.Goals as goal
use Rattle.client_core.proofs.client.ClientCore.moment.Goals.{then-is_none, else-is_none}

pub returns-clause-passes : goal.returns-clause-passes
returns-clause-passes c = elim c.if-is_none.branch [
  | then-is_none w ↦ passes_ok c.args.self.now c.if-is_none.self w.pass-passed.result c.answer.result c.args.moment (search rules) (search rules) (search rules) (search rules) (search rules) c.answer.ensures.ok
  | else-is_none w ↦ search rules
]
