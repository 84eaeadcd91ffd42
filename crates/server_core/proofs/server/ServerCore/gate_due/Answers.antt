use Rattle.std.specs.Prelude.{Option}
use Rattle.std.specs.Option.{option_map}
use Rattle.std.proofs.Common.{sym, ap, ◌∙◌}
use Rattle.edge_cross.specs.declared.gate.Waiting.{Waiting}
use Rattle.server_core.proofs.server.ServerCore.gate_due.Goals as goal

pub returns-in-Some : goal.returns-in-Some
returns-in-Some c = λ b s h. ap (λ (o : Option Waiting). option_map (λ (w : Waiting). w.due) o) (sym c.in-Some.is ∙ c.waiting.ensures s h.gate)

pub returns-in-None : goal.returns-in-None
returns-in-None c = λ b s h. ap (λ (o : Option Waiting). option_map (λ (w : Waiting). w.due) o) (sym c.in-None.is ∙ c.waiting.ensures s h.gate)
