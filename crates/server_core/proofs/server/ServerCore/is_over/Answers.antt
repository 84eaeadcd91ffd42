use Rattle.std.specs.Prelude.{ℕ, ◌&&◌, ◌==◌, List, length}
use Rattle.std.proofs.Common.{sym, ap, ◌∙◌}
use Rattle.connection_table.specs.declared.connection.Connection.{Connection}
use Rattle.connection_table.specs.Standing.{StandsFor}
use Rattle.connection_table.proofs.Pairs.{pairs-length}
use Rattle.server_core.specs.Standing.{around}
use Rattle.server_core.proofs.server.ServerCore.is_over.Goals as goal

pub returns-then-self : goal.returns-then-self
returns-then-self c = λ b s h.
    c.is_empty.ensures
    ∙ (ap (λ (ks : List Connection). length ks == 0) c.as_slice.ensures
    ∙ (ap (λ (n : ℕ). n == 0) (pairs-length (StandsFor (around b s)) 0 c.args.self.now.table s.connections h.connections)
    ∙ ap (λ q. q && (length s.connections == 0)) (sym c.if-self.true ∙ h.has_quit)))
