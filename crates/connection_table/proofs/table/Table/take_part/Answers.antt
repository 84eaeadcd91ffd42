use Rattle.std.proofs.Common.{sym, ◌∙◌}
use Rattle.std.specs.Prelude.{None}
use Rattle.connection_table.specs.PartsTaken.{TakesPart}
use Rattle.connection_table.specs.Tables.{is_of}
use Rattle.connection_table.proofs.FirstOf.{first_changes, none_changes}
use Rattle.connection_table.proofs.table.Table.take_part.Goals as goal

pub returns-clause-ok : goal.returns-clause-ok
returns-clause-ok c = first_changes (is_of c.args.serial) (TakesPart c.args.clip c.args.seq c.args.mark c.args.bytes.now c.in_ok-whole.whole) c.args.self.now c.self.inside.connections.items c.in-Some.place c.index_mut.result.now c.take_part.new.self (sym c.self.view_is) (sym c.in-Some.ensures.place) c.in-Some.ensures.within c.index_mut.ensures.value c.in_ok-whole.ensures.ok

pub returns-in_default-clause-ok : goal.returns-in_default-clause-ok
returns-in_default-clause-ok c = none_changes (is_of c.args.serial) (TakesPart c.args.clip c.args.seq c.args.mark c.args.bytes.now None) c.args.self.now (sym c.place_of.ensures.place ∙ c.in_default.is)
