use Rattle.send_queue.proofs.Standing.{other-targets}
use Rattle.send_queue.proofs.laws.other_targets.Goals as goal

pub returns : goal.returns
returns c = other-targets
