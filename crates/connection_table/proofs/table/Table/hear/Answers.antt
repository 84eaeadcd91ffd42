use Rattle.std.proofs.Common.{sym, ◌∙◌}
use Rattle.hello_states.specs.Phases.{after_hearing_in}
use Rattle.connection_table.specs.Calls.{Advances}
use Rattle.connection_table.specs.Tables.{is_of}
use Rattle.connection_table.proofs.FirstOf.{first_changes, none_changes}
use Rattle.connection_table.proofs.table.Table.hear.Goals as goal

pub returns-in-Some : goal.returns-in-Some
returns-in-Some c = first_changes (is_of c.args.serial) (Advances (λ p. after_hearing_in p c.args.now)) c.args.self.now c.self.inside.connections.items c.in-Some.place c.index_mut.result.now c.hear.new.self (sym c.self.view_is) (sym c.in-Some.ensures.place) c.in-Some.ensures.within c.index_mut.ensures.value c.hear.ensures

pub returns-in_default : goal.returns-in_default
returns-in_default c = none_changes (is_of c.args.serial) (Advances (λ p. after_hearing_in p c.args.now)) c.args.self.now (sym c.place_of.ensures.place ∙ c.in_default.is)
