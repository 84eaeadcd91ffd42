use Rattle.std.proofs.Common.{◌≡◌, true, sym, subst}
use Rattle.option_table.specs.Table.{RowText, row_of}
use Rattle.option_table.specs.Values.{suits}
use Rattle.option_table.proofs.RowPlaces.{default_suits}
use Rattle.option_table.proofs.settings.Settings.value.Goals as goal

pub returns-in-None-clause-suits : goal.returns-in-None-clause-suits
returns-in-None-clause-suits c =
    subst (λ (r : RowText). suits (row_of c.args.option).form r.default ≡ true) (sym c.row.ensures)
    (default_suits c.args.option)
