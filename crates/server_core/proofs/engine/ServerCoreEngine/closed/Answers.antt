use Rattle.server_core.proofs.Happened.{closes-serving, closes-departing}
use Rattle.server_core.proofs.Promised.{closes-running, closes-at-end}
use Rattle.server_core.proofs.engine.ServerCoreEngine.closed.Goals as goal

pub returns-in-Ok-clause-serves : goal.returns-in-Ok-clause-serves
returns-in-Ok-clause-serves c = closes-serving c.args.self.now c.close.new.self c.args.serial c.in-Ok.ensures.serves

pub returns-in-Ok-clause-laws : goal.returns-in-Ok-clause-laws
returns-in-Ok-clause-laws c = closes-running c.args.serial c.args.self.now c.close.new.self (closes-serving c.args.self.now c.close.new.self c.args.serial c.in-Ok.ensures.serves)

pub returns-in-Ok-clause-laws_at_end : goal.returns-in-Ok-clause-laws_at_end
returns-in-Ok-clause-laws_at_end c = closes-at-end c.args.serial c.args.self.now c.close.new.self (closes-departing c.args.self.now c.close.new.self c.args.serial c.in-Ok.ensures.departs)
