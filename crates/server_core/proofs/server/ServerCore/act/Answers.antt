use Rattle.std.proofs.Common.{sym, subst}
use Rattle.message_codec.specs.declared.messages.Msg.TheVariants as msg
use Rattle.hotkey_rules.specs.declared.action.Action.{Action}
use Rattle.machine.specs.Routing.{route}
use Rattle.machine.specs.Actions.{act}
use Rattle.server_core.specs.Standing.{Stands}
use Rattle.server_core.proofs.server.ServerCore.act.Goals as goal

pub returns-in_ok-release_key-in-KeyStroke : goal.returns-in_ok-release_key-in-KeyStroke
returns-in_ok-release_key-in-KeyStroke c = λ o b s h. subst (λ (x : Action). Stands b c.release_key.new.self (act o x s)) (sym c.in-KeyStroke.is) (c.in_ok-release_key-in-KeyStroke.ensures o b (route o s.active (msg.KeyDown c.in-KeyStroke.id.0 c.in-KeyStroke.mods.0 c.in-KeyStroke.button.0) s) (c.in_ok-press_key-in-KeyStroke.ensures o b s h))

pub returns-in_ok-press_key-in-KeyPress : goal.returns-in_ok-press_key-in-KeyPress
returns-in_ok-press_key-in-KeyPress c = λ o b s h. subst (λ (x : Action). Stands b c.press_key-in-KeyPress.new.self (act o x s)) (sym c.in-KeyPress.is) (c.in_ok-press_key-in-KeyPress.ensures o b s h)

pub returns-in_ok-release_key-in-KeyRelease : goal.returns-in_ok-release_key-in-KeyRelease
returns-in_ok-release_key-in-KeyRelease c = λ o b s h. subst (λ (x : Action). Stands b c.release_key-in-KeyRelease.new.self (act o x s)) (sym c.in-KeyRelease.is) (c.in_ok-release_key-in-KeyRelease.ensures o b s h)

pub returns-in_ok-release_button-in-MouseClick : goal.returns-in_ok-release_button-in-MouseClick
returns-in_ok-release_button-in-MouseClick c = λ o b s h. subst (λ (x : Action). Stands b c.release_button.new.self (act o x s)) (sym c.in-MouseClick.is) (c.in_ok-release_button-in-MouseClick.ensures o b (route o s.active (msg.ButtonDown c.in-MouseClick.b.0) s) (c.in_ok-press_button-in-MouseClick.ensures o b s h))

pub returns-in_ok-press_button-in-MousePress : goal.returns-in_ok-press_button-in-MousePress
returns-in_ok-press_button-in-MousePress c = λ o b s h. subst (λ (x : Action). Stands b c.press_button-in-MousePress.new.self (act o x s)) (sym c.in-MousePress.is) (c.in_ok-press_button-in-MousePress.ensures o b s h)

pub returns-in_ok-release_button-in-MouseRelease : goal.returns-in_ok-release_button-in-MouseRelease
returns-in_ok-release_button-in-MouseRelease c = λ o b s h. subst (λ (x : Action). Stands b c.release_button-in-MouseRelease.new.self (act o x s)) (sym c.in-MouseRelease.is) (c.in_ok-release_button-in-MouseRelease.ensures o b s h)

pub returns-in_ok-switch_to_screen-in-SwitchTo : goal.returns-in_ok-switch_to_screen-in-SwitchTo
returns-in_ok-switch_to_screen-in-SwitchTo c = λ o b s h. subst (λ (x : Action). Stands b c.switch_to_screen.new.self (act o x s)) (sym c.in-SwitchTo.is) (c.in_ok-switch_to_screen-in-SwitchTo.ensures o b s h)

pub returns-in_ok-switch_toward-in-SwitchToward : goal.returns-in_ok-switch_toward-in-SwitchToward
returns-in_ok-switch_toward-in-SwitchToward c = λ o b s h. subst (λ (x : Action). Stands b c.switch_toward.new.self (act o x s)) (sym c.in-SwitchToward.is) (c.in_ok-switch_toward-in-SwitchToward.ensures o b s h)
