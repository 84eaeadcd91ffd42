use Rattle.config_text.proofs.HeaderLines.{no_header}
use Rattle.config_text.proofs.verdict_laws.lines_need_a_header.Goals as goal

pub returns : goal.returns
returns c = no_header
