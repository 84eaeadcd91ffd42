-- Points and edges from their parts.
use Rattle.std.proofs.Common.{◌≡◌, ℕ, ℤ, pos, ap, ◌∙◌}
use Rattle.std.specs.Prelude.{nat_abs}
use Rattle.share_base.specs.declared.shape.Shape.{Shape}
use Rattle.share_base.specs.declared.shape.Side.{Side}
use Rattle.edge_cross.specs.declared.edge.Edge.{Edge}
use Rattle.edge_cross.specs.Edges.{axis_of, pixel_along}
use Rattle.edge_cross.specs.PassedEdges.{edge_at}
use Rattle.machine.specs.States.{Point}

abbrev pub at : ℤ → ℤ → Point
at x y = record { x = x; y = y }

abbrev edge : Side → ℕ → Edge
edge side p = record { side = side; p = p }

pub same_point : (a b c d : ℤ) → a ≡ c → b ≡ d → at a b ≡ at c d
same_point a b c d columns rows = ap (λ (x : ℤ). at x b) columns ∙ ap (λ (y : ℤ). at c y) rows

-- from its pixel, as a whole number
pub edge_of_pixel : (side : Side) (shape : Shape) (x y : ℤ) (p : ℕ) → pos p ≡ pixel_along (axis_of side) shape x y → edge side p ≡ edge_at (axis_of side) shape x y side
edge_of_pixel side shape x y p is = ap (λ (z : ℤ). edge side (nat_abs z)) is
