use Rattle.std.proofs.Common.{refl}
use Rattle.option_table.specs.Settings.{none_set}
use Rattle.option_table.proofs.NoneSet.{none_there}
use Rattle.option_table.proofs.settings.Settings.new.Goals as goal

pub invariant_of-result : goal.invariant_of-result
invariant_of-result c n v e = absurd (none_there none_set refl n v e)
