use Rattle.std.specs.Prelude.{ℕ, ◌+◌}
use Rattle.std.proofs.Common.{ap, ◌∙◌}
use Rattle.server_core.specs.Lines.{line_of}
use Rattle.server_core.proofs.Ahead.{next-ahead}
use Rattle.server_core.proofs.Kept.{stands-past}
use Rattle.server_core.proofs.server.ServerCore.pass_line.Goals as goal

pub returns-clause-leads : goal.returns-clause-leads
returns-clause-leads c = λ b s l ahead e h. stands-past b c.args.self.now s (c.args.self.now.ran + 1) ahead h (next-ahead line_of c.args.self.now.ran c.args.self.now.script.lines l ahead (h.lines ∙ e)) (ap (λ (n : ℕ). n + 1) h.ran)
