use Rattle.both_ends.proofs.GreetedFirst.{greeted-first}
use Rattle.both_ends.proofs.laws.greeted_first.Goals as goal

pub returns : goal.returns
returns c = greeted-first
