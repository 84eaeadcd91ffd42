use Rattle.server_engine.specs.Engines.{meaning}
use Rattle.server_core.proofs.Driven.{steps-flagged}
use Rattle.server_core.proofs.Promised.{goes-on-where-ok}
use Rattle.server_core.proofs.engine.ServerCoreEngine.step.Goals as goal

pub returns-clause-steps : goal.returns-clause-steps
returns-clause-steps c = steps-flagged c.happen-answer.result c.args.self.now c.happen-answer.new.self c.is_err-self.result (meaning c.args.happening) c.happen-answer.ensures

pub returns-clause-laws : goal.returns-clause-laws
returns-clause-laws c = goes-on-where-ok c.happen-answer.result (meaning c.args.happening) c.args.self.now _ (steps-flagged c.happen-answer.result c.args.self.now c.happen-answer.new.self c.is_err-self.result (meaning c.args.happening) c.happen-answer.ensures)
