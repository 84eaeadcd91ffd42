-- The side of a shape that a point has passed, and the pixel.
use Rattle.std.specs.Prelude.{◌≡◌, ℤ, pos, ◌+ℤ◌, ◌-ℤ◌, ◌<ℤ◌, ◌≤ℤ◌, Option, Some, None}
use Rattle.std.specs.Int.{int_min, int_max}
use Rattle.share_base.specs.declared.shape.Shape.{Shape}
use Rattle.share_base.specs.declared.shape.Side.{Side}
use Rattle.share_base.specs.declared.shape.Side.TheVariants.{Left, Right, Up, Down}
use Rattle.edge_cross.specs.declared.edge.Axis.{Axis}
use Rattle.edge_cross.specs.declared.edge.Axis.TheVariants.{Horizontal, Vertical}
use Rattle.edge_cross.specs.declared.edge.Edge.{Edge}

abbrev pub axis_of : Side → Axis
axis_of Left = Horizontal
axis_of Right = Horizontal
axis_of Up = Vertical
axis_of Down = Vertical

-- the point x, y lies past that side of the shape
abbrev pub Past : Side → Shape → ℤ → ℤ → Type 0
Past Left shape x y = x <ℤ shape.x
Past Right shape x y = (shape.x +ℤ shape.w) ≤ℤ x
Past Up shape x y = y <ℤ shape.y
Past Down shape x y = (shape.y +ℤ shape.h) ≤ℤ y

-- the coordinate, clamped into the shape and counted from its first pixel
abbrev pub along : ℤ → ℤ → ℤ → ℤ
along at first size = int_max first (int_min at ((first +ℤ size) -ℤ pos 1)) -ℤ first

-- the pixel on a side of that axis, from the other coordinate
abbrev pub pixel_along : Axis → Shape → ℤ → ℤ → ℤ
pixel_along Horizontal shape x y = along y shape.y shape.h
pixel_along Vertical shape x y = along x shape.x shape.w

-- the number of pixels on a side of that axis
abbrev pub side_length : Axis → Shape → ℤ
side_length Horizontal shape = shape.h
side_length Vertical shape = shape.w

-- the edge is the side of that axis that the point has passed; no edge if it has passed neither
abbrev pub Leaves : Option Edge → Axis → Shape → ℤ → ℤ → Type 0
Leaves (Some edge) axis shape x y =
    (axis_of edge.side ≡ axis) × Past edge.side shape x y
    × (pos edge.p ≡ pixel_along axis shape x y)
Leaves None axis shape x y = (side : Side) → axis_of side ≡ axis → Past side shape x y → ⊥
