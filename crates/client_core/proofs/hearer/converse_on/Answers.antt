use Rattle.std.proofs.Common.{sym, ◌∙◌}
use Rattle.client_core.proofs.Hearers.{shows_one}
use Rattle.client_core.proofs.hearer.converse_on.Goals as goal

pub returns-then-is_for_screen-clause-shown : goal.returns-then-is_for_screen-clause-shown
returns-then-is_for_screen-clause-shown c = shows_one c.args.talk.now c.args.msg.now c.args.printer.now c.hear.new.self (sym c.is_for_screen.ensures ∙ c.if-is_for_screen.true) c.in_ok-hear.ensures.ok
