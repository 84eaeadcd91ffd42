use Rattle.std.proofs.Common.{map, ◌∙◌}
use Rattle.script_screen.specs.Forms.{client_row}
use Rattle.script_screen.proofs.RowSteps.{words_fit, rest_is, rest_counted}
use Rattle.script_screen.proofs.forms.ClientForm.arguments.Goals as goal

pub arguments-requires : goal.arguments-requires
arguments-requires c =
    words_fit c.row.result (client_row c.args.self) c.args.words.now c.row.ensures c.requires

pub returns-clause-rest : goal.returns-clause-rest
returns-clause-rest c =
    c.arguments.ensures.rest
    ∙ rest_is c.row.result (client_row c.args.self) (map (λ w. w.now) c.args.words.now)
    c.row.ensures

pub returns-clause-count : goal.returns-clause-count
returns-clause-count c =
    rest_counted c.row.result (client_row c.args.self) c.args.words.now c.arguments.result.now
    c.row.ensures c.requires c.arguments.ensures.count
