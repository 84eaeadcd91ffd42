use Rattle.config_text.proofs.ActionTexts.{list_added}
use Rattle.config_text.proofs.hotkey_printing.put_actions.Goals as goal

pub returns-in_ok-put_one-in-len1-up : goal.returns-in_ok-put_one-in-len1-up
returns-in_ok-put_one-in-len1-up c =
    list_added c.put_further.result c.args.config.now c.args.actions.now _ c.args.out.now
    c.put_one.new.out c.put_further.new.out
    c.in-len1-up.len_at_least c.in_ok-put_one-in-len1-up.ensures c.put_further.ensures
