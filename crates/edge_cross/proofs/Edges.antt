-- The edges that a point passes on each axis.
use Rattle.std.proofs.Common.{◌≡◌, ℕ, ℤ, pos, ◌+ℤ◌, ◌<ℤ◌, ◌≤ℤ◌, Some, sym, ◌∙◌, subst}
use Rattle.share_base.specs.declared.shape.Shape.{Shape}
use Rattle.share_base.specs.declared.shape.Side.{Side}
use Rattle.share_base.specs.declared.shape.Side.TheVariants.{Left, Right, Up, Down}
use Rattle.edge_cross.specs.declared.edge.Axis.{Axis}
use Rattle.edge_cross.specs.declared.edge.Axis.TheVariants.{Horizontal, Vertical}
use Rattle.edge_cross.specs.Edges.{axis_of, Past, pixel_along, Leaves}

pub passed : (axis : Axis) (side : Side) (p : ℕ) (shape : Shape) (x y : ℤ) → axis ≡ axis_of side
    → Past side shape x y → pos p ≡ pixel_along (axis_of side) shape x y
    → Leaves (Some (record { side = side; p = p })) axis shape x y
passed axis side p shape x y is past at =
    (sym is, past, subst (λ (a : Axis). pos p ≡ pixel_along a shape x y) (sym is) at)

pub inside_columns : (axis : Axis) (shape : Shape) (x y : ℤ) → axis ≡ Horizontal
    → (x <ℤ shape.x → ⊥) → ((shape.x +ℤ shape.w) ≤ℤ x → ⊥) → (side : Side) → axis_of side ≡ axis
    → Past side shape x y → ⊥
inside_columns axis shape x y is left right Left same past = left past
inside_columns axis shape x y is left right Right same past = right past
inside_columns axis shape x y is left right Up same past =
    let other : Vertical ≡ Horizontal = same ∙ is in cc
inside_columns axis shape x y is left right Down same past =
    let other : Vertical ≡ Horizontal = same ∙ is in cc

pub inside_rows : (axis : Axis) (shape : Shape) (x y : ℤ) → axis ≡ Vertical → (y <ℤ shape.y → ⊥)
    → ((shape.y +ℤ shape.h) ≤ℤ y → ⊥) → (side : Side) → axis_of side ≡ axis → Past side shape x y
    → ⊥
inside_rows axis shape x y is up down Left same past =
    let other : Horizontal ≡ Vertical = same ∙ is in cc
inside_rows axis shape x y is up down Right same past =
    let other : Horizontal ≡ Vertical = same ∙ is in cc
inside_rows axis shape x y is up down Up same past = up past
inside_rows axis shape x y is up down Down same past = down past
