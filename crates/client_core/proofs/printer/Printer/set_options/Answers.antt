use Rattle.std.proofs.Common.{refl, ◌∙◌}
use Rattle.client_core.proofs.Pairs.{added-none}
use Rattle.client_core.proofs.Screens.{shows-options, shows-same}
use Rattle.client_core.proofs.printer.Printer.set_options.Goals as goal

pub returns-clause-ok : goal.returns-clause-ok
returns-clause-ok c = shows-options _ _ _ c.set_options.ensures refl c.in-Ok.ensures.ok

pub returns-in-Err-clause-err : goal.returns-in-Err-clause-err
returns-in-Err-clause-err c = shows-same _ _ refl refl (added-none _ _ _ _ (c.len-len.ensures ∙ c.args.self.now.lines.ok.0) c.in-Err.ensures.err c.truncate.ensures.items)
