-- The tap that a gate keeps is on the side that it was asked about last.
use Rattle.std.proofs.Common.{◌≡◌, ℕ, ◌-◌, Bool, true, false, ◌&&◌, cond, List, ◌∷◌, Option, None, Some, refl, sym, ap}
use Rattle.std.specs.Prelude.{nat_le}
use Rattle.std.specs.Option.{option_map}
use Rattle.share_base.specs.declared.shape.Side.{Side}
use Rattle.share_base.specs.Shapes.{same_side}
use Rattle.share_base.proofs.SameSides.{one_side}
use Rattle.edge_cross.specs.declared.gate.Tap.{Tap}
use Rattle.edge_cross.specs.Gates.{Call, Ask, repeats, kept_tap}

abbrev side_of : Option Tap → Option Side
side_of tap = option_map (λ (t : Tap). t.side) tap

first : (a b : Bool) → (a && b) ≡ true → a ≡ true
first true b e = refl
first false b e = e

pub tap_asked : (time now : ℕ) (side : Side) (calls : List Call) → side_of (kept_tap time (Ask now side ∷ calls)) ≡ Some side
tap_asked time now side calls = at (kept_tap time calls)
  where
    new : Tap
    new = record { at = now; side = side }

    by : (tap : Tap) (b : Bool) → (same_side tap.side side && nat_le (now - tap.at) time) ≡ b → side_of (cond b (Some tap) (Some new)) ≡ Some side
    by tap true e = ap (λ (side : Side). Some side) (sym (one_side tap.side side (first (same_side tap.side side) (nat_le (now - tap.at) time) e)))
    by tap false e = refl

    at : (kept : Option Tap) → side_of (cond (repeats time kept now side) kept (Some new)) ≡ Some side
    at None = refl
    at (Some tap) = by tap (same_side tap.side side && nat_le (now - tap.at) time) refl
