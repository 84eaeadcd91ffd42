use Rattle.std.proofs.Common.{◌<◌, length, sym, ◌∙◌, arith}
use Rattle.config_text.proofs.LinkTables.{past_screens, past_side, put_empty, put_taken}
use Rattle.config_text.proofs.link_table.put_link.Goals as goal

pub returns-then-link-count-clause-added : goal.returns-then-link-count-clause-added
returns-then-link-count-clause-added c =
    λ links table.
    past_screens links c.args.link c.args.count c.args.cells.now.items c.if-link-count.true table

pub returns-then-link-ge-SIDE_END-clause-added : goal.returns-then-link-ge-SIDE_END-clause-added
returns-then-link-ge-SIDE_END-clause-added c =
    λ links table.
    past_side links c.args.link c.args.count c.args.cells.now.items c.if-link-ge-SIDE_END.true table

pub returns-then-is_some-clause-added : goal.returns-then-is_some-clause-added
returns-then-is_some-clause-added c =
    let within : c.cell_of-cell.result < length c.args.cells.now.items =
    omega (arith, c.cell_of-cell.ensures.within, c.requires, c.if-link-count.false) in
    λ links table.
    put_taken links c.args.link c.args.count c.args.cells.now.items c.cell_of-cell.result
    c.index.result.now c.cell_of-cell.ensures.value within c.index.ensures
    (sym c.is_some.ensures ∙ c.if-is_some.true) table

pub returns-clause-added : goal.returns-clause-added
returns-clause-added c =
    let within : c.cell_of-cell.result < length c.args.cells.now.items =
    omega (arith, c.cell_of-cell.ensures.within, c.requires, c.if-link-count.false) in
    λ links table.
    put_empty links c.args.link c.args.count c.args.cells.now.items c.cell_of-cell.result
    c.index.result.now c.cell_of-cell.ensures.value within c.index.ensures
    (sym c.is_some.ensures ∙ c.if-is_some.false) (omega (arith, c.if-link-ge-SIDE_END.false)) table
