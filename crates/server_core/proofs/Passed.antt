-- What the gate hears changes neither shapes nor ways.
use Rattle.std.specs.Prelude.{◌≡◌, refl, ℕ, ℤ, List, Option, Some, None, unwrap_or}
use Rattle.std.proofs.Common.{ap, subst}
use Rattle.share_base.specs.declared.shape.Shape.{Shape}
use Rattle.edge_cross.specs.Gates.{Call}
use Rattle.machine.specs.Targets.{Target, Primary, Client, Origin}
use Rattle.machine.specs.States.{State, Point}
use Rattle.machine.specs.Screens.{shape_of, target_of, clamped}
use Rattle.machine.specs.Edges.{Way, first_way}
use Rattle.machine.specs.Crossing.{Stay, entry_point, stay, through, cross_by, moved_point}
use Rattle.machine.specs.Switching.{switch}
use Rattle.machine.specs.Events.{moved, move, gate_hears}
use Rattle.screen_crossing.specs.declared.point.Point as kept
use Rattle.screen_crossing.specs.declared.way.Way as found
use Rattle.screen_crossing.specs.Points.{point_of}
use Rattle.screen_crossing.specs.Ways.{ways_of}
use Rattle.server_core.specs.declared.server.ServerCore.{ServerCore}
use Rattle.server_core.specs.Targets.{IsThere}
use Rattle.server_core.specs.Standing.{Beside, Stands}
use Rattle.server_core.specs.Passing.{holder, switch_by, goes_through, stays_near}
use Rattle.server_core.proofs.Open.{target-open}

abbrev pub heard : State → List Call → State
heard s calls = record s { gate_calls = calls }

same_shape : (s : State) (calls : List Call) (t : Target) → shape_of (heard s calls) t ≡ shape_of s t
same_shape s calls Primary = refl
same_shape s calls (Client n) = refl

-- the cursor stays at the same point
pub same-stay : (s : State) (calls : List Call) (number : ℕ) (p : Point) → stays_near number p (heard s calls) ≡ moved number (stay s p) (heard s calls)
same-stay s calls number p = ap (λ (shape : Shape). moved number (Stay (clamped shape p)) (heard s calls)) (same_shape s calls s.active)

-- and goes to the same point
pub same-through : (s : State) (calls : List Call) (o : Origin) (w : Way) → goes_through o w (heard s calls) ≡ switch_by o (through s w) (heard s calls)
same-through s calls o w =
    ap (λ (shape : Shape). switch o (holder s w.landing.screen.0) (entry_point w.side shape w.landing.t) (heard s calls)) (same_shape s calls (holder s w.landing.screen.0))

-- whoever has a screen is there
pub holder-open : (s : State) (screen : ℕ) → IsThere s (holder s screen)
holder-open s screen = by (target_of s screen) refl
  where
    by : (o : Option Target) → target_of s screen ≡ o → IsThere s (unwrap_or o Primary)
    by None e = tt
    by (Some t) e = target-open s screen t e

-- ---- a motion

-- it does what the way does that was found
pub stands-moved : (b : Beside) (new : ServerCore) (s : State) (number : ℕ) (dx dy : ℤ) (p : kept.Point) (way : Option found.Way) → point_of p ≡ moved_point s dx dy → ways_of way ≡ first_way s (point_of p) → Stands b new (moved number (cross_by s (point_of p) (ways_of way)) (gate_hears (ways_of way) s)) → Stands b new (move number dx dy s)
stands-moved b new s number dx dy p way at is h =
    subst (λ (q : Point). Stands b new (moved number (cross_by s q (first_way s q)) (gate_hears (first_way s q) s))) at
    (subst (λ (o : Option Way). Stands b new (moved number (cross_by s (point_of p) o) (gate_hears o s))) is h)
