use Rattle.std.specs.Prelude.{◌≡◌, ℕ, List, length, ◌++◌}
use Rattle.std.proofs.Common.{arith, ap, ◌∙◌, subst}
use Rattle.message_codec.specs.declared.messages.Msg.TheVariants as msg
use Rattle.screen_config.specs.Configurations.{Configuration}
use Rattle.screen_config.specs.Globals.{wire_options_of}
use Rattle.machine.specs.Targets.{Client, Own}
use Rattle.machine.specs.States.{State}
use Rattle.machine.specs.Routing.{route}
use Rattle.server_core.specs.Standing.{Stands}
use Rattle.server_core.proofs.Options.{options-fit}
use Rattle.server_core.proofs.server.ServerCore.tell_options.Goals as goal

pub route-requires-3 : goal.route-requires-3
route-requires-3 c = options-fit c.args.self.now.config c.args.screen.0 c.wire_options.new.out (c.in_ok-wire_options.ensures.ok ∙ ap (λ (ws : List ℕ). ws ++ wire_options_of c.args.self.now.config c.args.screen.0) c.new-words.ensures)

pub returns : goal.returns
returns c = λ b s known h.
    let told : State = route Own (Client c.args.serial) msg.ResetOptions (route Own (Client c.args.serial) msg.InfoAck s) in
    let words : c.wire_options.new.out ≡ wire_options_of s.config c.args.screen.0 = c.in_ok-wire_options.ensures.ok ∙ ap (λ (ws : List ℕ). ws ++ wire_options_of c.args.self.now.config c.args.screen.0) c.new-words.ensures ∙ ap (λ (g : Configuration). wire_options_of g c.args.screen.0) h.config in
    subst (λ (ws : List ℕ). Stands b c.route-3.new.self (route Own (Client c.args.serial) (msg.SetOptions ws) told)) words
    (c.in_ok-route-3.ensures Own b told known.0 (c.in_ok-route-2.ensures Own b (route Own (Client c.args.serial) msg.InfoAck s) known.0 (c.in_ok-route.ensures Own b s known.0 h)))

pub returns-then-screen-count : goal.returns-then-screen-count
returns-then-screen-count c = λ b s known h. absurd (let lt = known.1 in let e : length c.args.self.now.config.screens ≡ length s.config.screens = ap (λ (g : Configuration). length g.screens) h.config in omega arith)
