use Rattle.std.specs.Prelude.{◌≡◌, Some, IfSome, ◌<◌, ◌+◌, ◌^◌, length}
use Rattle.std.specs.List.{find}
use Rattle.std.proofs.Common.{sym, ◌∙◌, subst}
use Rattle.connection_table.specs.declared.connection.Connection.{Connection}
use Rattle.connection_table.specs.Calls.{Reads}
use Rattle.connection_table.specs.Tables.{is_of}
use Rattle.connection_table.proofs.FirstOf.{first_changes, none_changes, found_at}
use Rattle.connection_table.proofs.table.Table.read.Goals as goal

pub returns-in_default : goal.returns-in_default
returns-in_default c = none_changes (is_of c.args.serial) (Reads c.args.piece.now c.nothing.result) c.args.self.now (sym c.place_of.ensures.place ∙ c.in_default.is)

pub read-requires : goal.read-requires
read-requires c =
    let found : find (is_of c.args.serial) c.args.self.now ≡ Some c.index_mut.result.now = found_at (is_of c.args.serial) c.args.self.now c.self.inside.connections.items c.in-Some.place c.index_mut.result.now (sym c.self.view_is) (sym c.in-Some.ensures.place) c.in-Some.ensures.within c.index_mut.ensures.value in
    subst (λ o. IfSome o (λ (d : Connection). d.reader.total + length c.args.piece.now < 2 ^ 63)) found c.requires

pub returns : goal.returns
returns c = first_changes (is_of c.args.serial) (Reads c.args.piece.now c.in_ok-reading.reading) c.args.self.now c.self.inside.connections.items c.in-Some.place c.index_mut.result.now c.read.new.self (sym c.self.view_is) (sym c.in-Some.ensures.place) c.in-Some.ensures.within c.index_mut.ensures.value c.in_ok-reading.ensures
