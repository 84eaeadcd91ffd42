use Rattle.std.specs.Prelude.{◌∷◌}
use Rattle.edge_cross.specs.Gates.{Away}
use Rattle.server_core.proofs.Kept.{stands-gate}
use Rattle.server_core.proofs.server.ServerCore.hear_away.Goals as goal

pub returns : goal.returns
returns c = λ b s h. stands-gate b c.args.self.now s c.away.new.self (Away ∷ s.gate_calls) h (c.away.ensures s h.gate)
