use Rattle.config_text.proofs.Verdicts.{one_verdict, some_verdict}
use Rattle.config_text.proofs.verdict_laws.each_text_has_one_verdict.Goals as goal

pub returns : goal.returns
returns c = record { some = some_verdict; one = one_verdict }
