use Rattle.send_queue.proofs.Standing.{left-now}
use Rattle.send_queue.proofs.queue.SendQueue.is_left.Goals as goal

pub returns : goal.returns
returns c = left-now _ _ _ c.self.view_is c.self.invariant c.is_empty.ensures
