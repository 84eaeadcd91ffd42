use Rattle.std.specs.Prelude.{◌≡◌, Some, None}
use Rattle.std.proofs.Common.{sym, ap, ◌∙◌}
use Rattle.hello_states.specs.Phases.{joined_screen}
use Rattle.machine.specs.Targets.{Own}
use Rattle.connection_table.specs.PhaseOf.{phase_of}
use Rattle.server_core.proofs.Indexed.{read-some, read-none}
use Rattle.server_core.proofs.ToldJoined.{told-none, told-other, told-joined}
use Rattle.server_core.proofs.server.ServerCore.tell_if_joined.Goals as goal

pub returns-in_default : goal.returns-in_default
returns-in_default c = told-none c.args.self.now c.args.message.now c.args.index (read-none c.as_slice.result.now c.args.self.now.table c.args.index c.as_slice.ensures c.in_default.ensures.lookup.3)

pub returns-in_default-joined_screen : goal.returns-in_default-joined_screen
returns-in_default-joined_screen c =
    let look = c.in-Some.ensures.lookup in
    let off : None ≡ joined_screen (phase_of c.in-Some.connection.now.phase) = c.in_default-joined_screen.ensures.screen ∙ ap (λ p. joined_screen (phase_of p)) c.phase.ensures in
    told-other c.args.self.now c.args.message.now c.args.index c.in-Some.connection.now (read-some c.as_slice.result.now c.args.self.now.table c.args.index c.in-Some.connection.now c.as_slice.ensures look.3.0 look.1) (sym off)

pub returns : goal.returns
returns c =
    let look = c.in-Some.ensures.lookup in
    let is : Some c.in-Some-joined_screen.field-0.0 ≡ joined_screen (phase_of c.in-Some.connection.now.phase) = c.in-Some-joined_screen.ensures.screen ∙ ap (λ p. joined_screen (phase_of p)) c.phase.ensures in
    told-joined c.args.self.now c.route.new.self c.args.message.now c.args.index c.serial-serial.result c.in-Some-joined_screen.field-0.0 c.in-Some.connection.now (read-some c.as_slice.result.now c.args.self.now.table c.args.index c.in-Some.connection.now c.as_slice.ensures look.3.0 look.1) c.serial-serial.ensures (sym is) (c.in_ok-route.ensures Own)
