use Rattle.std.proofs.Common.{refl}
use Rattle.share_commands.proofs.Shown.{fresh_core}
use Rattle.share_commands.proofs.show_core.ShowCore.new.Goals as goal

pub returns-clause-kept : goal.returns-clause-kept
returns-clause-kept c = fresh_core _ c.new.ensures.role c.new.ensures.represents c.new.ensures.fine c.new-2.ensures refl
