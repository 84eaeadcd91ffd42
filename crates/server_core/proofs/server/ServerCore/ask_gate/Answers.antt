use Rattle.std.specs.Prelude.{◌∷◌}
use Rattle.std.proofs.Common.{sym, ◌∙◌}
use Rattle.edge_cross.specs.Gates.{asked}
use Rattle.machine.specs.GateCalls.{before_ask}
use Rattle.server_core.proofs.Kept.{stands-gate}
use Rattle.server_core.proofs.server.ServerCore.ask_gate.Goals as goal

pub returns-clause-passes : goal.returns-clause-passes
returns-clause-passes c = λ b s h. c.ask.ensures.passes s (sym (c.moment.ensures.moment ∙ h.at)) h.gate

pub returns-clause-hears : goal.returns-clause-hears
returns-clause-hears c = λ b s h. stands-gate b c.args.self.now s c.ask.new.self (asked s.at c.args.side ∷ before_ask s c.args.side) h (c.ask.ensures.hears s (sym (c.moment.ensures.moment ∙ h.at)) h.gate)
