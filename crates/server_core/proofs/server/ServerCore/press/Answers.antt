use Rattle.std.specs.Prelude.{List, Option}
use Rattle.std.proofs.Common.{sym, ◌∙◌, subst}
use Rattle.share_base.specs.declared.numbers.RuleNo.{RuleNo}
use Rattle.hotkey_rules.specs.declared.action.Action.{Action}
use Rattle.machine.specs.Targets.{OfLine, OfAction}
use Rattle.machine.specs.Actions.{act_all}
use Rattle.machine.specs.Routes.{One, on_press}
use Rattle.machine.specs.Events.{go}
use Rattle.server_core.specs.Standing.{Stands}
use Rattle.server_core.proofs.server.ServerCore.press.Goals as goal

pub returns : goal.returns
returns c = λ number b s h.
    subst (λ (r : Option RuleNo). Stands b c.act_all.new.self (go number (on_press s r (One s.active c.args.message.now)) s)) (sym c.in-Some.is)
    (subst (λ (xs : List Action). Stands b c.act_all.new.self (act_all (OfAction number) xs s)) (c.as_slice.ensures.value ∙ c.in_ok-list.ensures b s h) (c.in_ok-act_all.ensures (OfAction number) b s h))

pub returns-in_default : goal.returns-in_default
returns-in_default c = λ number b s h. subst (λ (r : Option RuleNo). Stands b c.tell_active.new.self (go number (on_press s r (One s.active c.args.message.now)) s)) (sym c.in_default.is) (c.in_ok-tell_active.ensures (OfLine number) b s h)
