use Rattle.std.proofs.Common.{sym, ap, ◌∙◌, ◌+ℤ◌}
use Rattle.machine.specs.States.{Point}
use Rattle.screen_crossing.proofs.Stored.{moved_small}
use Rattle.screen_crossing.proofs.Places.{at, same_point}
use Rattle.screen_crossing.proofs.point.Point.moved.Goals as goal

pub returns : goal.returns
returns c = λ s is.
    same_point _ _ _ _ (moved_small c.args.self.x c.args.dx c.requires.left c.requires.right c.ranges.dx) (moved_small c.args.self.y c.args.dy c.requires.top c.requires.bottom c.ranges.dy)
    ∙ sym (ap (λ (p : Point). at (p.x +ℤ c.args.dx) (p.y +ℤ c.args.dy)) is)
