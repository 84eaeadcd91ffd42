use Rattle.std.proofs.Common.{ap, ◌∙◌}
use Rattle.share_base.specs.declared.shape.Shape.{Shape}
use Rattle.machine.specs.Crossing.{entry_point}
use Rattle.server_core.proofs.server.ServerCore.entry_at.Goals as goal

pub returns-clause-point : goal.returns-clause-point
returns-clause-point c = λ b s h. c.entry_point.ensures.value ∙ ap (λ (shape : Shape). entry_point c.args.side shape c.args.t) (c.shape_of-shape.ensures.shape b s h)
