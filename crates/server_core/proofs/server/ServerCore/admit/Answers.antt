use Rattle.std.specs.Prelude.{◌≡◌, ◌<◌, refl, ℕ, length}
use Rattle.std.proofs.Common.{ap, ◌∙◌, subst}
use Rattle.message_codec.specs.declared.messages.Msg.TheVariants as msg
use Rattle.option_table.specs.declared.rows.OptionName.TheVariants as option
use Rattle.option_table.specs.Settings.{standing}
use Rattle.screen_config.specs.Configurations.{Configuration}
use Rattle.screen_config.specs.declared.globals.Globals.{Globals}
use Rattle.hello_states.specs.Phases.{Greeting, Asked}
use Rattle.hello_states.specs.Handshake.{Admitted, after_hello}
use Rattle.hello_states.specs.Advancing.{admitted_as}
use Rattle.machine.specs.Targets.{Client, Own}
use Rattle.machine.specs.States.{State}
use Rattle.machine.specs.Hello.{rate}
use Rattle.machine.specs.Routing.{route}
use Rattle.connection_table.proofs.Advancing.{admission-ends}
use Rattle.server_core.specs.Standing.{Stands}
use Rattle.server_core.proofs.Open.{lives-open}
use Rattle.server_core.proofs.Known.{phase-lives, stands-advanced}
use Rattle.server_core.proofs.server.ServerCore.admit.Goals as goal

pub returns : goal.returns
returns c = λ accepted b s p h.
    let t : State = route Own (Client c.args.serial) msg.QueryInfo s in
    let told : Stands b c.route.new.self t = c.in_ok-route.ensures Own b s (lives-open s c.args.serial (phase-lives s c.args.serial (Greeting accepted) p refl)) h in
    let known : c.args.screen.0 < length s.config.screens = subst (λ (g : Configuration). c.args.screen.0 < length g.screens) h.config c.requires.known in
    let rated : c.globals-rate.result.heartbeat ≡ rate s = ap (λ (g : Globals). g.heartbeat) c.globals-rate.ensures.values ∙ ap (λ (g : Configuration). standing g.settings option.Heartbeat) told.config in
    stands-advanced b c.route.new.self t c.admit.new.self c.args.serial (Greeting accepted) (after_hello (Admitted c.args.screen.0) accepted (rate s) s.at) (admitted_as c.args.screen.0 c.globals-rate.result.heartbeat) (admission-ends c.args.screen.0 c.globals-rate.result.heartbeat) (λ k. known)
    (ap (λ (n : ℕ). Asked (record { screen = c.args.screen.0; accepted = accepted; rate = n })) rated) refl p told c.admit.ensures
