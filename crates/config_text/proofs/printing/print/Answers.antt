use Rattle.std.proofs.lemmas.Result.{on_ok_weaker}
use Rattle.config_text.proofs.PrintedLengths.{normal_short}
use Rattle.config_text.proofs.TextAgain.{spelled_again}
use Rattle.config_text.proofs.printing.print.Goals as goal

pub returns-clause-again : goal.returns-clause-again
returns-clause-again c =
    on_ok_weaker c.extend.result (λ _. spelled_again c.args.config.now c.screens.ensures.sound)
    c.extend.ensures.ok

pub
    returns-in_err-put_screens_section-clause-fits : goal.returns-in_err-put_screens_section-clause-fits
returns-in_err-put_screens_section-clause-fits c =
    normal_short c.args.config.now c.screens.ensures.sound

pub
    returns-in_err-put_aliases_section-clause-fits : goal.returns-in_err-put_aliases_section-clause-fits
returns-in_err-put_aliases_section-clause-fits c =
    normal_short c.args.config.now c.screens.ensures.sound

pub returns-in_err-put_links_section-clause-fits : goal.returns-in_err-put_links_section-clause-fits
returns-in_err-put_links_section-clause-fits c =
    normal_short c.args.config.now c.screens.ensures.sound

pub
    returns-in_err-put_options_section-clause-fits : goal.returns-in_err-put_options_section-clause-fits
returns-in_err-put_options_section-clause-fits c =
    normal_short c.args.config.now c.screens.ensures.sound

pub returns-clause-fits : goal.returns-clause-fits
returns-clause-fits c = normal_short c.args.config.now c.screens.ensures.sound
