-- The edge that a point has passed, as an answer.
use Rattle.std.specs.Prelude.{Bool, true, false, ℤ, ◌+ℤ◌, int_lt, int_le, nat_abs, Option, Some}
use Rattle.std.specs.Prelude.{None}
use Rattle.std.specs.Option.{option_map}
use Rattle.share_base.specs.declared.shape.Shape.{Shape}
use Rattle.share_base.specs.declared.shape.Side.{Side}
use Rattle.share_base.specs.declared.shape.Side.TheVariants.{Left, Right, Up, Down}
use Rattle.edge_cross.specs.declared.edge.Axis.{Axis}
use Rattle.edge_cross.specs.declared.edge.Axis.TheVariants.{Horizontal, Vertical}
use Rattle.edge_cross.specs.declared.edge.Edge.{Edge}
use Rattle.edge_cross.specs.Edges.{pixel_along}

-- the pixel of a side of that axis at which a point stands
abbrev pub edge_at : Axis → Shape → ℤ → ℤ → Side → Edge
edge_at axis shape x y side = record { side = side; p = nat_abs (pixel_along axis shape x y) }

-- the near side where the point is before it, the far one where it is past it
abbrev pub passed : Bool → Bool → Side → Side → Option Side
passed true past near far = Some near
passed false true near far = Some far
passed false false near far = None

abbrev pub side_passed : Axis → Shape → ℤ → ℤ → Option Side
side_passed Horizontal shape x y =
    passed (int_lt x shape.x) (int_le (shape.x +ℤ shape.w) x) Left Right
side_passed Vertical shape x y = passed (int_lt y shape.y) (int_le (shape.y +ℤ shape.h) y) Up Down

abbrev pub edge_passed : Axis → Shape → ℤ → ℤ → Option Edge
edge_passed axis shape x y = option_map (edge_at axis shape x y) (side_passed axis shape x y)
