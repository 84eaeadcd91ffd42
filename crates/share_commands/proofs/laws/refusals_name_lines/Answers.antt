use Rattle.config_text.proofs.LineNumbers.{has_line}
use Rattle.share_commands.proofs.laws.refusals_name_lines.Goals as goal

pub returns : goal.returns
returns c = has_line
