use Rattle.std.proofs.Common.{sym, ◌∙◌}
use Rattle.connection_table.specs.Calls.{Sends}
use Rattle.connection_table.specs.Tables.{is_of}
use Rattle.connection_table.proofs.FirstOf.{first_changes, none_changes}
use Rattle.connection_table.proofs.table.Table.send.Goals as goal

pub returns-clause-ok : goal.returns-clause-ok
returns-clause-ok c = first_changes (is_of c.args.serial) (Sends c.args.message.now) c.args.self.now c.self.inside.connections.items c.in-Some.place c.index_mut.result.now c.send.new.self (sym c.self.view_is) (sym c.in-Some.ensures.place) c.in-Some.ensures.within c.index_mut.ensures.value c.in_ok-send.ensures.ok

pub returns-in_default-clause-ok : goal.returns-in_default-clause-ok
returns-in_default-clause-ok c = none_changes (is_of c.args.serial) (Sends c.args.message.now) c.args.self.now (sym c.place_of.ensures.place ∙ c.in_default.is)
