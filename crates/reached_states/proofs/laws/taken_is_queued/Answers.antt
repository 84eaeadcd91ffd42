use Rattle.reached_states.proofs.Taken.{taken-is-queued}
use Rattle.reached_states.proofs.laws.taken_is_queued.Goals as goal

pub returns : goal.returns
returns c = taken-is-queued
