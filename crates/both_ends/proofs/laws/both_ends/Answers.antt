use Rattle.both_ends.proofs.Understood.{joining-understands, injecting-understands}
use Rattle.both_ends.proofs.laws.both_ends.Goals as goal

pub returns-clause-joining : goal.returns-clause-joining
returns-clause-joining c = joining-understands

pub returns-clause-injecting : goal.returns-clause-injecting
returns-clause-injecting c = injecting-understands
