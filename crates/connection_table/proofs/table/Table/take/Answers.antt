use Rattle.std.specs.Prelude.{◌≡◌, Some, IfSome, ◌≤◌, ◌<◌, ◌+◌, ◌^◌, length}
use Rattle.std.specs.List.{find}
use Rattle.std.proofs.Common.{sym, ◌∙◌, subst}
use Rattle.connection_table.specs.declared.connection.Connection.{Connection}
use Rattle.connection_table.specs.Calls.{Takes}
use Rattle.connection_table.specs.Tables.{is_of}
use Rattle.connection_table.proofs.FirstOf.{first_changes, none_changes, found_at}
use Rattle.connection_table.proofs.table.Table.take.Goals as goal

pub take-requires-clause-there : goal.take-requires-clause-there
take-requires-clause-there c =
    let found : find (is_of c.args.serial) c.args.self.now ≡ Some c.index_mut.result.now = found_at (is_of c.args.serial) c.args.self.now c.self.inside.connections.items c.in-Some.place c.index_mut.result.now (sym c.self.view_is) (sym c.in-Some.ensures.place) c.in-Some.ensures.within c.index_mut.ensures.value in
    subst (λ o. IfSome o (λ (d : Connection). c.args.count ≤ length d.queue.untaken)) found c.requires.there

pub take-requires-clause-fits : goal.take-requires-clause-fits
take-requires-clause-fits c =
    let found : find (is_of c.args.serial) c.args.self.now ≡ Some c.index_mut.result.now = found_at (is_of c.args.serial) c.args.self.now c.self.inside.connections.items c.in-Some.place c.index_mut.result.now (sym c.self.view_is) (sym c.in-Some.ensures.place) c.in-Some.ensures.within c.index_mut.ensures.value in
    subst (λ o. IfSome o (λ (d : Connection). d.queue.taken + c.args.count < 2 ^ 63)) found c.requires.fits

pub returns-in-Some : goal.returns-in-Some
returns-in-Some c = first_changes (is_of c.args.serial) (Takes c.args.count) c.args.self.now c.self.inside.connections.items c.in-Some.place c.index_mut.result.now c.take.new.self (sym c.self.view_is) (sym c.in-Some.ensures.place) c.in-Some.ensures.within c.index_mut.ensures.value c.take.ensures

pub returns-in_default : goal.returns-in_default
returns-in_default c = none_changes (is_of c.args.serial) (Takes c.args.count) c.args.self.now (sym c.place_of.ensures.place ∙ c.in_default.is)
