use Rattle.std.specs.Option.{option_and_then}
use Rattle.std.proofs.Common.{sym, ap, ◌∙◌}
use Rattle.hello_states.specs.Phases.{joined_shape}
use Rattle.machine.specs.Connections.{Connection}
use Rattle.connection_table.specs.PhaseOf.{phase_of}
use Rattle.server_core.proofs.Found.{some-read, none-read}
use Rattle.server_core.proofs.server.ServerCore.shape_joined.Goals as goal

pub returns-in-Some-clause-shape : goal.returns-in-Some-clause-shape
returns-in-Some-clause-shape c = λ b s h. some-read b c.args.self.now s c.args.serial c.in-Some.connection.now _ (λ o. option_and_then (λ (d : Connection). joined_shape d.phase) o) c.in-Some.ensures h (λ d r. c.joined_shape.ensures.shape ∙ (ap (λ p. joined_shape (phase_of p)) c.phase.ensures ∙ ap joined_shape r.phase))

pub returns-in-None-clause-shape : goal.returns-in-None-clause-shape
returns-in-None-clause-shape c = λ b s h. sym (ap (λ o. option_and_then (λ (d : Connection). joined_shape d.phase) o) (none-read b c.args.self.now s c.args.serial c.in-None.ensures h))
