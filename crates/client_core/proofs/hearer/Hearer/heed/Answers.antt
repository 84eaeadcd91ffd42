use Rattle.std.proofs.Common.{sym, ◌∙◌}
use Rattle.client_core.proofs.Hearers.{heeds_on}
use Rattle.client_core.proofs.hearer.Hearer.heed.Goals as goal

pub returns-in_ok-hear-in-None-clause-heeds : goal.returns-in_ok-hear-in-None-clause-heeds
returns-in_ok-hear-in-None-clause-heeds c = heeds_on c.args.self.now c.hear.new.self c.args.msg.now c.slow_end.result (sym c.in-None.is ∙ c.stop.ensures) c.in_ok-hear-in-None.ensures c.slow_end.ensures.value
