use Rattle.std.specs.Prelude.{Option}
use Rattle.std.proofs.Common.{sym, subst}
use Rattle.hello_states.specs.declared.part_cause.PartCause.TheVariants as cause
use Rattle.machine.specs.Connections.{Connection}
use Rattle.machine.specs.Combining.{for_some, unchanged}
use Rattle.machine.specs.Partings.{part}
use Rattle.server_core.specs.Standing.{Stands}
use Rattle.server_core.proofs.SlowFound.{slow-none, slow-leads}
use Rattle.server_core.proofs.server.ServerCore.part_first_slow.Goals as goal

pub returns-clause-leads : goal.returns-clause-leads
returns-clause-leads c = λ b s h. slow-leads b c.args.self.now c.part.new.self s c.in-Some.connection.now c.serial-serial.result c.in-Some.ensures c.serial-serial.ensures h c.in_ok-part.ensures

pub returns-in_default-clause-leads : goal.returns-in_default-clause-leads
returns-in_default-clause-leads c = λ b s h. subst (λ (o : Option Connection). Stands b c.args.self.now (for_some o (λ d. part cause.Slow d.serial) unchanged s)) (sym (slow-none b c.args.self.now s c.in_default.ensures h)) h

pub returns-in_default-clause-none : goal.returns-in_default-clause-none
returns-in_default-clause-none c = λ e b s h. slow-none b c.args.self.now s c.in_default.ensures h
