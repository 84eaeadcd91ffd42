use Rattle.std.specs.Prelude.{refl}
use Rattle.connection_table.proofs.connection.Connection.send.Goals as goal

pub returns-clause-ok : goal.returns-clause-ok
returns-clause-ok c = record { answer = c.in_ok-push.field-0; pushes = c.in_ok-push.ensures.ok; rest = refl }
