use Rattle.std.specs.Prelude.{Bool, Option}
use Rattle.std.proofs.Common.{sym, ◌∙◌, subst}
use Rattle.screen_links.specs.declared.link.Landing.{Landing}
use Rattle.machine.specs.Combining.{when, for_some, unchanged}
use Rattle.machine.specs.Edges.{landing, edge_at_cursor}
use Rattle.machine.specs.Actions.{enter_landing}
use Rattle.server_core.specs.Standing.{Stands}
use Rattle.server_core.proofs.server.ServerCore.switch_toward.Goals as goal

pub returns : goal.returns
returns c = λ o b s h.
    subst (λ (t : Bool). Stands b c.enter_landing.new.self (when t (for_some (landing s (edge_at_cursor s c.args.side)) (enter_landing o c.args.side) unchanged) s)) (sym c.if-not-may_switch.false ∙ c.may_switch.ensures b s h)
    (subst (λ (x : Option Landing). Stands b c.enter_landing.new.self (for_some x (enter_landing o c.args.side) unchanged s)) (c.in-Some.ensures.landing b s h) (c.in_ok-enter_landing.ensures o b s h))

pub returns-in_default : goal.returns-in_default
returns-in_default c = λ o b s h.
    subst (λ (t : Bool). Stands b c.args.self.now (when t (for_some (landing s (edge_at_cursor s c.args.side)) (enter_landing o c.args.side) unchanged) s)) (sym c.if-not-may_switch.false ∙ c.may_switch.ensures b s h)
    (subst (λ (x : Option Landing). Stands b c.args.self.now (for_some x (enter_landing o c.args.side) unchanged s)) (c.in_default.ensures.landing b s h) h)

pub returns-then-not-may_switch : goal.returns-then-not-may_switch
returns-then-not-may_switch c = λ o b s h.
    subst (λ (t : Bool). Stands b c.args.self.now (when t (for_some (landing s (edge_at_cursor s c.args.side)) (enter_landing o c.args.side) unchanged) s)) (sym c.if-not-may_switch.true ∙ c.may_switch.ensures b s h) h
