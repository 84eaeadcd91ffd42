use Rattle.std.specs.Prelude.{ℕ, length, Option, Some}
use Rattle.std.specs.Option.{option_map}
use Rattle.std.proofs.Common.{ap, ◌∙◌}
use Rattle.connection_table.specs.declared.connection.Connection.{Connection}
use Rattle.server_core.proofs.Indexed.{read-some, read-none}
use Rattle.server_core.proofs.Timed.{serial-at, within-list, past-list}
use Rattle.server_core.proofs.server.ServerCore.serial_at.Goals as goal

pub returns-in-Some : goal.returns-in-Some
returns-in-Some c = λ b s h.
    let look = c.in-Some.ensures.lookup in
    let found = read-some c.as_slice.result.now c.args.self.now.table c.args.place c.in-Some.connection.now c.as_slice.ensures (within-list c.args.place (length c.as_slice.result.now) look.0) look.1 in
    ap (λ (n : ℕ). Some n) c.serial.ensures ∙ (ap (λ (o : Option Connection). option_map (λ (k : Connection). k.serial) o) found ∙ serial-at b c.args.self.now s c.args.place h)

pub returns-in-None : goal.returns-in-None
returns-in-None c = λ b s h.
    let none = read-none c.as_slice.result.now c.args.self.now.table c.args.place c.as_slice.ensures (past-list c.args.place (length c.as_slice.result.now) c.in-None.ensures.lookup.0) in
    ap (λ (o : Option Connection). option_map (λ (k : Connection). k.serial) o) none ∙ serial-at b c.args.self.now s c.args.place h
