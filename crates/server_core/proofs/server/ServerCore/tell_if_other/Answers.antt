use Rattle.std.proofs.Common.{sym, ap, ◌∙◌}
use Rattle.hello_states.specs.Phases.{joined_screen}
use Rattle.connection_table.specs.PhaseOf.{phase_of}
use Rattle.machine.specs.Targets.{Own}
use Rattle.server_core.proofs.TellOthers.{other-none, other-unjoined, other-itself, other-told, got-none, got-some}
use Rattle.server_core.proofs.server.ServerCore.tell_if_other.Goals as goal

pub returns-in_default : goal.returns-in_default
returns-in_default c = let g = c.in_default.ensures.lookup in other-none c.args.self.now c.args.message.now c.args.serial c.args.index (got-none c.as_slice.result.now c.args.self.now.table c.args.index g.3 c.as_slice.ensures)

pub returns-in_default-joined_screen : goal.returns-in_default-joined_screen
returns-in_default-joined_screen c =
    let g = c.in-Some.ensures.lookup in
    other-unjoined c.args.self.now c.args.message.now c.args.serial c.args.index c.in-Some.connection.now (got-some c.as_slice.result.now c.args.self.now.table c.args.index c.in-Some.connection.now g.3.0 g.1 c.as_slice.ensures)
    (sym (c.in_default-joined_screen.ensures.screen ∙ ap (λ p. joined_screen (phase_of p)) c.phase.ensures))

pub returns-then-other-serial : goal.returns-then-other-serial
returns-then-other-serial c =
    let g = c.in-Some.ensures.lookup in
    other-itself c.args.self.now c.args.message.now c.args.serial c.args.index c.serial-other.result c.in-Some-joined_screen.field-0.0 c.in-Some.connection.now (got-some c.as_slice.result.now c.args.self.now.table c.args.index c.in-Some.connection.now g.3.0 g.1 c.as_slice.ensures) c.serial-other.ensures c.if-other-serial.true
    (sym (c.in-Some-joined_screen.ensures.screen ∙ ap (λ p. joined_screen (phase_of p)) c.phase.ensures))

pub returns : goal.returns
returns c =
    let g = c.in-Some.ensures.lookup in
    other-told c.args.self.now c.route.new.self c.args.message.now c.args.serial c.args.index c.serial-other.result c.in-Some-joined_screen.field-0.0 c.in-Some.connection.now (got-some c.as_slice.result.now c.args.self.now.table c.args.index c.in-Some.connection.now g.3.0 g.1 c.as_slice.ensures) c.serial-other.ensures c.if-other-serial.false
    (sym (c.in-Some-joined_screen.ensures.screen ∙ ap (λ p. joined_screen (phase_of p)) c.phase.ensures)) (c.in_ok-route.ensures Own)
