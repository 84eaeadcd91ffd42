use Rattle.std.specs.Prelude.{false, not}
use Rattle.std.specs.Option.{option_map_or}
use Rattle.std.proofs.Common.{sym, ap, ◌∙◌}
use Rattle.hello_states.specs.Phases.{is_parting}
use Rattle.machine.specs.Connections.{is_live}
use Rattle.server_core.proofs.Found.{some-read, none-read}
use Rattle.server_core.proofs.server.ServerCore.lives.Goals as goal

pub returns-in-Some : goal.returns-in-Some
returns-in-Some c = λ b s h. some-read b c.args.self.now s c.args.serial c.in-Some.connection.now c.is_live.result (λ o. option_map_or is_live o false) c.in-Some.ensures h (λ d r. c.is_live.ensures ∙ ap (λ p. not (is_parting p)) r.phase)

pub returns-in-None : goal.returns-in-None
returns-in-None c = λ b s h. sym (ap (λ o. option_map_or is_live o false) (none-read b c.args.self.now s c.args.serial c.in-None.ensures h))
