use Rattle.std.proofs.Common.{◌≡◌, ◌*◌, length, take}
use Rattle.config_text.specs.LinkTables.{IsTableOf}
use Rattle.config_text.proofs.link_table.link_table.Given as goal

abbrev pub invariant-loop-link : goal.invariant-loop-link
invariant-loop-link l = record {
  table : IsTableOf (take l.link-index l.links) l.count l.cells.items;
  cells : length l.cells.items ≡ l.count * 400;
}
