use Rattle.std.specs.Prelude.{refl, ◌^◌}
use Rattle.machine.specs.Steps.{takes}
use Rattle.connection_table.proofs.Standing.{are-taken}
use Rattle.server_core.specs.Standing.{around}
use Rattle.server_core.proofs.Changed.{stands-changed}
use Rattle.server_core.proofs.Taken.{may-take, take-fits}
use Rattle.server_core.proofs.server.ServerCore.takes.Goals as goal

pub take-requires-clause-there : goal.take-requires-clause-there
take-requires-clause-there c = may-take c.args.self.now c.args.serial c.args.count c.requires.there

pub take-requires-clause-fits : goal.take-requires-clause-fits
take-requires-clause-fits c = take-fits c.args.self.now c.args.serial c.args.count (2 ^ 63) c.requires.fits

pub returns-clause-leads : goal.returns-clause-leads
returns-clause-leads c = λ b s h. stands-changed b c.args.self.now s c.take.new.self c.args.serial (takes c.args.count) (λ d. refl) h (are-taken (around b s) c.args.serial c.args.count c.args.self.now.table c.take.new.self s.connections h.connections c.take.ensures)
