use Rattle.std.specs.Prelude.{not}
use Rattle.std.proofs.Common.{rules, ap, ◌∙◌}
use Rattle.std.proofs.lemmas.Fn.{filter_same}
use Rattle.connection_table.specs.declared.connection.Connection.{Connection}
use Rattle.connection_table.specs.Tables.{is_of, without}
use Rattle.connection_table.proofs.table.Table.remove.Goals as goal

pub returns : goal.returns
returns c = filter_same _ (λ (d : Connection). not (is_of c.args.serial d)) _ (λ x b f k. search rules) c.self.inside.connections.items c.retain.new.self.items c.retain.ensures.filtered ∙ ap (without c.args.serial) c.self.view_is
