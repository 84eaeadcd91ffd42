-- A point has passed at most one edge on each axis.
use Rattle.std.proofs.Common.{◌≡◌, ℕ, ℤ, pos, ◌+ℤ◌, ◌<ℤ◌, ◌≤ℤ◌, Option, None, Some, refl, sym, ap, ◌∙◌, subst, arith}
use Rattle.std.proofs.lemmas.Int.{ints}
use Rattle.share_base.specs.declared.shape.Shape.{Shape}
use Rattle.share_base.specs.declared.shape.Side.{Side}
use Rattle.share_base.specs.declared.shape.Side.TheVariants.{Left, Right, Up, Down}
use Rattle.share_base.specs.Shapes.{IsScreenShape}
use Rattle.edge_cross.specs.declared.edge.Axis.{Axis}
use Rattle.edge_cross.specs.declared.edge.Axis.TheVariants.{Horizontal, Vertical}
use Rattle.edge_cross.specs.declared.edge.Edge.{Edge}
use Rattle.screen_crossing.proofs.Stored.{stored}
use Rattle.edge_cross.specs.Edges.{axis_of, Past, Leaves}

both_columns : (shape : Shape) (x : ℤ) → IsScreenShape shape → x <ℤ shape.x → (shape.x +ℤ shape.w) ≤ℤ x → ⊥
both_columns shape x is left right = let wide : pos 1 ≤ℤ shape.w = is.wide in omega (arith, ints)

both_rows : (shape : Shape) (y : ℤ) → IsScreenShape shape → y <ℤ shape.y → (shape.y +ℤ shape.h) ≤ℤ y → ⊥
both_rows shape y is up down = let high : pos 1 ≤ℤ shape.h = is.high in omega (arith, ints)

other_axis : {A : Type 0} (axis : Axis) → Horizontal ≡ axis → Vertical ≡ axis → A
other_axis axis h v = let same : Horizontal ≡ Vertical = h ∙ sym v in cc

one_side : (axis : Axis) (shape : Shape) (x y : ℤ) → IsScreenShape shape → (one other : Side) → axis_of one ≡ axis → axis_of other ≡ axis → Past one shape x y → Past other shape x y → one ≡ other
one_side axis shape x y is Left Left a b p q = refl
one_side axis shape x y is Left Right a b p q = absurd (both_columns shape x is p q)
one_side axis shape x y is Left Up a b p q = other_axis axis a b
one_side axis shape x y is Left Down a b p q = other_axis axis a b
one_side axis shape x y is Right Left a b p q = absurd (both_columns shape x is q p)
one_side axis shape x y is Right Right a b p q = refl
one_side axis shape x y is Right Up a b p q = other_axis axis a b
one_side axis shape x y is Right Down a b p q = other_axis axis a b
one_side axis shape x y is Up Left a b p q = other_axis axis b a
one_side axis shape x y is Up Right a b p q = other_axis axis b a
one_side axis shape x y is Up Up a b p q = refl
one_side axis shape x y is Up Down a b p q = absurd (both_rows shape y is p q)
one_side axis shape x y is Down Left a b p q = other_axis axis b a
one_side axis shape x y is Down Right a b p q = other_axis axis b a
one_side axis shape x y is Down Up a b p q = absurd (both_rows shape y is q p)
one_side axis shape x y is Down Down a b p q = refl

pub one_edge : (axis : Axis) (shape : Shape) (x y : ℤ) → IsScreenShape shape → (one other : Option Edge) → Leaves one axis shape x y → Leaves other axis shape x y → one ≡ other
one_edge axis shape x y is None None l m = refl
one_edge axis shape x y is None (Some e) l m = absurd (l e.side m.0 m.1)
one_edge axis shape x y is (Some e) None l m = absurd (m e.side l.0 l.1)
one_edge axis shape x y is (Some d) (Some e) l m =
    let sides : d.side ≡ e.side = one_side axis shape x y is d.side e.side l.0 m.0 l.1 m.1 in
    let same : pos d.p ≡ pos e.p = l.2 ∙ sym m.2 in
    let pixels : d.p ≡ e.p = cc in
    ap (λ (side : Side). Some (record { side = side; p = d.p })) sides ∙ ap (λ (p : ℕ). Some (record { side = e.side; p = p })) pixels

-- of a point whose coordinates were stored
pub leaves_stored : (e : Option Edge) (axis : Axis) (shape : Shape) (x y : ℤ) → stored x ≡ x → stored y ≡ y → Leaves e axis shape (stored x) (stored y) → Leaves e axis shape x y
leaves_stored e axis shape x y x_is y_is l = subst (λ (b : ℤ). Leaves e axis shape x b) y_is (subst (λ (a : ℤ). Leaves e axis shape a (stored y)) x_is l)
