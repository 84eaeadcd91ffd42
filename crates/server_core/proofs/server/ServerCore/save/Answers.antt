use Rattle.std.specs.Prelude.{◌≡◌, Bool, true, ◌∷◌, if◌then◌else◌}
use Rattle.std.proofs.Common.{sym, ap, ◌∙◌, subst}
use Rattle.message_codec.specs.declared.messages.Msg.TheVariants as msg
use Rattle.option_table.specs.declared.rows.OptionName.TheVariants as option
use Rattle.screen_config.specs.declared.globals.Globals.{Globals}
use Rattle.screen_config.specs.Configurations.{Configuration}
use Rattle.screen_config.specs.Globals.{flag}
use Rattle.machine.specs.Targets.{Primary, Own}
use Rattle.machine.specs.Combining.{when}
use Rattle.machine.specs.Screens.{joined_clients}
use Rattle.machine.specs.Routing.{route, route_all}
use Rattle.server_core.specs.Standing.{Stands}
use Rattle.server_core.proofs.Copies.{sure}
use Rattle.server_core.proofs.server.ServerCore.save.Goals as goal

pub returns : goal.returns
returns c = λ b s h.
    let on : flag s.config.settings option.ScreenSaverSync ≡ true = sym (ap (λ (g : Globals). g.screen_saver_sync) c.globals.ensures.values ∙ ap (λ (f : Configuration). flag f.settings option.ScreenSaverSync) h.config) ∙ sure c.globals.result.screen_saver_sync c.if-not-globals.false in
    subst (λ (t : Bool). Stands b c.tell_joined.new.self (when t (λ u. route_all Own (Primary ∷ joined_clients u) (msg.Saver (if c.args.on then 1 else 0)) u) s)) (sym on)
    (subst (λ n. Stands b c.tell_joined.new.self (route_all Own (Primary ∷ joined_clients s) (msg.Saver n) s)) c.marked.ensures
    (c.in_ok-tell_joined.ensures b (route Own Primary (msg.Saver c.marked.result) s) (c.in_ok-route.ensures Own b s tt h)))
