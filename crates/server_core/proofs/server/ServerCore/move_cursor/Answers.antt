use Rattle.std.specs.Prelude.{◌≡◌, Bool, Some, None, ◌∷◌, if◌then◌else◌}
use Rattle.std.proofs.Common.{sym, ap, ◌∙◌, subst}
use Rattle.edge_cross.specs.Gates.{Away, asked}
use Rattle.machine.specs.Targets.{OfLine}
use Rattle.machine.specs.GateCalls.{before_ask, hear_ask}
use Rattle.machine.specs.Crossing.{stay, through, moved_point}
use Rattle.machine.specs.Events.{moved}
use Rattle.screen_crossing.specs.Points.{point_of}
use Rattle.screen_crossing.specs.Ways.{way_of, ways_of}
use Rattle.server_core.specs.Standing.{Stands}
use Rattle.server_core.proofs.Passed.{same-stay, same-through, stands-moved}
use Rattle.server_core.proofs.Coordinates.{as_passed}
use Rattle.server_core.proofs.server.ServerCore.move_cursor.Goals as goal

pub returns-in_default : goal.returns-in_default
returns-in_default c = λ number b s h.
    let p = point_of c.moved-point.result in
    stands-moved b c.stay_near.new.self s number c.args.dx c.args.dy c.moved-point.result None
    (as_passed (λ x y. p ≡ moved_point s x y) c.args.dx c.args.dy c.ranges.dx c.ranges.dy (c.moved-point.ensures s (sym (ap point_of c.point.ensures.point ∙ h.cursor))))
    (ap ways_of (sym c.in_default.is) ∙ c.first_way.ensures.way b s h)
    (subst (λ t. Stands b c.stay_near.new.self t) (same-stay s (Away ∷ s.gate_calls) number p)
    (c.in_ok-stay_near.ensures number b (record s { gate_calls = Away ∷ s.gate_calls }) (c.hear_away.ensures b s h)))

pub returns-then-ask_gate : goal.returns-then-ask_gate
returns-then-ask_gate c = λ number b s h.
    let p = point_of c.moved-point.result in
    let w = way_of c.in-Some.way in
    let asks = c.ask_gate.ensures.hears b s h in
    stands-moved b c.go_through.new.self s number c.args.dx c.args.dy c.moved-point.result (Some c.in-Some.way)
    (as_passed (λ x y. p ≡ moved_point s x y) c.args.dx c.args.dy c.ranges.dx c.ranges.dy (c.moved-point.ensures s (sym (ap point_of c.point.ensures.point ∙ h.cursor))))
    (ap ways_of (sym c.in-Some.is) ∙ c.first_way.ensures.way b s h)
    (subst (λ (x : Bool). Stands b c.go_through.new.self (moved number (if x then through s w else stay s p) (hear_ask w.side s))) (sym c.if-ask_gate.true ∙ c.ask_gate.ensures.passes b s h)
    (subst (λ t. Stands b c.go_through.new.self t) (same-through s (asked s.at w.side ∷ before_ask s w.side) (OfLine number) w)
    (c.in_ok-go_through.ensures (OfLine number) b (hear_ask w.side s) asks)))

pub returns : goal.returns
returns c = λ number b s h.
    let p = point_of c.moved-point.result in
    let w = way_of c.in-Some.way in
    let asks = c.ask_gate.ensures.hears b s h in
    stands-moved b c.stay_near-2.new.self s number c.args.dx c.args.dy c.moved-point.result (Some c.in-Some.way)
    (as_passed (λ x y. p ≡ moved_point s x y) c.args.dx c.args.dy c.ranges.dx c.ranges.dy (c.moved-point.ensures s (sym (ap point_of c.point.ensures.point ∙ h.cursor))))
    (ap ways_of (sym c.in-Some.is) ∙ c.first_way.ensures.way b s h)
    (subst (λ (x : Bool). Stands b c.stay_near-2.new.self (moved number (if x then through s w else stay s p) (hear_ask w.side s))) (sym c.if-ask_gate.false ∙ c.ask_gate.ensures.passes b s h)
    (subst (λ t. Stands b c.stay_near-2.new.self t) (same-stay s (asked s.at w.side ∷ before_ask s w.side) number p)
    (c.in_ok-stay_near-2.ensures number b (hear_ask w.side s) asks)))
