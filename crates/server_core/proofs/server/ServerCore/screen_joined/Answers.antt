use Rattle.std.specs.Option.{option_and_then}
use Rattle.std.proofs.Common.{sym, ap, ◌∙◌}
use Rattle.hello_states.specs.Phases.{joined_screen}
use Rattle.machine.specs.Screens.{screen_in}
use Rattle.connection_table.specs.PhaseOf.{phase_of}
use Rattle.server_core.proofs.Found.{some-read, none-read}
use Rattle.server_core.proofs.server.ServerCore.screen_joined.Goals as goal

pub returns-in-Some-clause-screen : goal.returns-in-Some-clause-screen
returns-in-Some-clause-screen c = λ b s h. some-read b c.args.self.now s c.args.serial c.in-Some.connection.now _ (λ o. option_and_then screen_in o) c.in-Some.ensures h (λ d r. c.joined_screen.ensures.screen ∙ (ap (λ p. joined_screen (phase_of p)) c.phase.ensures ∙ ap joined_screen r.phase))

pub returns-in-None-clause-screen : goal.returns-in-None-clause-screen
returns-in-None-clause-screen c = λ b s h. sym (ap (λ o. option_and_then screen_in o) (none-read b c.args.self.now s c.args.serial c.in-None.ensures h))
