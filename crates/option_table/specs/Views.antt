-- A row of the code's table, without where its key lies in memory.
use Rattle.option_table.specs.declared.rows.Row.{Row}
use Rattle.option_table.specs.Table.{RowText}

abbrev pub row_text : Row → RowText
row_text r =
    record { key = r.key.now; scope = r.scope; form = r.form; default = r.default; code = r.code }
