use Rattle.machine.specs.Targets.{Client, same_target}
use Rattle.machine.specs.Combining.{when}
use Rattle.machine.specs.Switching.{fall_back}
use Rattle.server_core.proofs.server.ServerCore.lose.Goals as goal

pub returns : goal.returns
returns c = λ b s h. c.inherit_clips.ensures b (when (same_target s.active (Client c.args.serial)) fall_back s) (c.in_ok-leave_lost.ensures b s h)
