use Rattle.both_ends.proofs.Writable.{all-writable}
use Rattle.both_ends.proofs.laws.all_is_writable.Goals as goal

pub returns : goal.returns
returns c = all-writable
