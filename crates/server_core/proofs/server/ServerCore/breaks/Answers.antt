use Rattle.machine.specs.Combining.{choose}
use Rattle.machine.specs.Screens.{lives, change}
use Rattle.machine.specs.Partings.{part}
use Rattle.machine.specs.Steps.{drops}
use Rattle.server_core.proofs.server.ServerCore.breaks.Goals as goal

pub returns : goal.returns
returns c = λ b s h. c.in_ok-part_slow.ensures b (choose (lives s c.args.serial) (part c.args.cause c.args.serial) (change c.args.serial drops) s) (c.in_ok-part_or_drop.ensures b s h)
