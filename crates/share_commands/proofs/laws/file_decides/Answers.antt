use Rattle.share_commands.proofs.Checked.{accepted_is_printed, refused_is_said, too_big_is_said}
use Rattle.share_commands.proofs.laws.file_decides.Goals as goal

pub returns-clause-accepted : goal.returns-clause-accepted
returns-clause-accepted c = accepted_is_printed

pub returns-clause-refused : goal.returns-clause-refused
returns-clause-refused c = refused_is_said

pub returns-clause-over : goal.returns-clause-over
returns-clause-over c = too_big_is_said
