use Rattle.std.specs.Prelude.{Option}
use Rattle.std.proofs.Common.{sym, ap, ◌∙◌, subst}
use Rattle.machine.specs.Targets.{Own}
use Rattle.machine.specs.Combining.{for_some, unchanged}
use Rattle.machine.specs.GateCalls.{hear_away}
use Rattle.machine.specs.Edges.{Way}
use Rattle.machine.specs.Crossing.{through}
use Rattle.machine.specs.Timers.{switch_through}
use Rattle.screen_crossing.specs.Ways.{ways_of}
use Rattle.server_core.specs.Standing.{Stands}
use Rattle.server_core.proofs.server.ServerCore.try_edge.Goals as goal

pub returns-in_default : goal.returns-in_default
returns-in_default c = λ b s h.
    subst (λ (o : Option Way). Stands b c.hear_away.new.self (for_some o (λ v t. switch_through (through t v) t) unchanged (hear_away s))) (ap ways_of (sym c.in_default.is) ∙ c.way_at_cursor-way.ensures.way b s h) (c.hear_away.ensures b s h)

pub returns : goal.returns
returns c = λ b s h.
    subst (λ (o : Option Way). Stands b c.go_through.new.self (for_some o (λ v t. switch_through (through t v) t) unchanged (hear_away s))) (ap ways_of (sym c.in-Some.is) ∙ c.way_at_cursor-way.ensures.way b s h)
    (c.in_ok-go_through.ensures Own b (hear_away s) (c.hear_away.ensures b s h))
