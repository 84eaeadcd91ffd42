use Rattle.machine.specs.Happenings.{Took}
use Rattle.server_core.proofs.Happened.{steps-leads}
use Rattle.server_core.proofs.Promised.{goes-on-running}
use Rattle.server_core.proofs.engine.ServerCoreEngine.taken.Goals as goal

pub returns-clause-steps : goal.returns-clause-steps
returns-clause-steps c = steps-leads c.args.self.now c.take.new.self (Took c.args.serial c.args.count) c.take.ensures.leads

pub returns-clause-laws : goal.returns-clause-laws
returns-clause-laws c = goes-on-running (Took c.args.serial c.args.count) c.args.self.now c.take.new.self (steps-leads c.args.self.now c.take.new.self (Took c.args.serial c.args.count) c.take.ensures.leads)
