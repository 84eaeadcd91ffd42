use Rattle.std.proofs.Common.{sym, subst}
use Rattle.machine.specs.Happenings as machine
use Rattle.server_engine.specs.declared.happening.Happening.{Happening}
use Rattle.server_engine.specs.Engines.{Steps, meaning}
use Rattle.server_core.specs.Driving.{serves_in}
use Rattle.server_core.proofs.Happened.{steps-leads, steps-joined}
use Rattle.server_core.proofs.server.ServerCore.happen.Goals as goal

pub returns-in_ok-accept-in-Joined : goal.returns-in_ok-accept-in-Joined
returns-in_ok-accept-in-Joined c = subst (λ (h : Happening). Steps serves_in c.args.self.now c.accept.new.self (meaning h)) (sym c.in-Joined.is) (steps-joined c.args.self.now c.accept.new.self c.in-Joined.serial c.in_ok-accept-in-Joined.ensures)

pub returns-in_ok-breaks-in-Ended : goal.returns-in_ok-breaks-in-Ended
returns-in_ok-breaks-in-Ended c = subst (λ (h : Happening). Steps serves_in c.args.self.now c.breaks.new.self (meaning h)) (sym c.in-Ended.is) (steps-leads c.args.self.now c.breaks.new.self (machine.Ended c.in-Ended.serial) c.in_ok-breaks-in-Ended.ensures)
