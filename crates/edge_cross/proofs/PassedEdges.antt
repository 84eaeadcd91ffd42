-- The answer that is computed is the edge that was passed, and a pixel is computed to lie in a
-- corner where it does.
use Rattle.std.specs.Prelude.{◌≡◌, ◌≢◌, ◌↔◌, ◌⊎◌, refl, ℕ, ◌+◌, ◌<◌, ◌≤◌, Bool, true, false, not}
use Rattle.std.specs.Prelude.{◌&&◌, ◌||◌, ◌==◌, nat_lt, nat_le, IsTrue, ℤ, pos, negsuc, ◌+ℤ◌, ◌-ℤ◌}
use Rattle.std.specs.Prelude.{◌<ℤ◌, ◌≤ℤ◌, int_lt, int_le, nat_abs, cond, bit_and, Option, Some}
use Rattle.std.specs.Prelude.{None}
use Rattle.std.specs.Int.{int_min, int_max}
use Rattle.std.specs.Option.{option_map}
use Rattle.std.proofs.Common.{arith, sym, ap, ◌∙◌, subst, inl, inr}
use Rattle.std.proofs.lemmas.Int.{ints}
use Rattle.std.proofs.lemmas.Bool.Decides.{nat_tests}
use Rattle.share_base.specs.declared.shape.Shape.{Shape}
use Rattle.share_base.specs.declared.shape.Side.{Side}
use Rattle.share_base.specs.declared.shape.Side.TheVariants.{Left, Right, Up, Down}
use Rattle.share_base.specs.declared.corners.Corners.{Corners}
use Rattle.edge_cross.specs.declared.edge.Axis.{Axis}
use Rattle.edge_cross.specs.declared.edge.Axis.TheVariants.{Horizontal, Vertical}
use Rattle.edge_cross.specs.Edges.{Past, axis_of, along, pixel_along, Leaves}
use Rattle.edge_cross.specs.InCorners.{near_corner, far_corner, Lists, InCorner}
use Rattle.edge_cross.specs.PassedEdges.{edge_at, passed, side_passed, edge_passed}
use Rattle.edge_cross.specs.CornerTests.{lists, is_in_corner}
use Rattle.edge_cross.proofs.Edges.{inside_columns, inside_rows}
use Rattle.edge_cross.proofs.Edges as one

-- ---- edges

at_least_first : (x y : ℤ) → x ≤ℤ int_max x y
at_least_first x y = by (int_lt y x) refl
  where
    by : (b : Bool) → int_lt y x ≡ b → x ≤ℤ cond b x y
    by true e = omega (arith, ints)
    by false e = grind (arith, ints, e)

counted : (z : ℤ) → pos 0 ≤ℤ z → pos (nat_abs z) ≡ z
counted (pos n) h = refl
counted (negsuc n) h = absurd (omega (arith, ints))

along_counted : (at first size : ℤ) → pos (nat_abs (along at first size)) ≡ along at first size
along_counted at first size =
    let m : ℤ = int_max first (int_min at ((first +ℤ size) -ℤ pos 1)) in
    let h : first ≤ℤ m = at_least_first first (int_min at ((first +ℤ size) -ℤ pos 1)) in
    counted (m -ℤ first) (from first m h)
  where
    from : (a b : ℤ) → a ≤ℤ b → pos 0 ≤ℤ (b -ℤ a)
    from a b h = omega (arith, ints)

pixel_counted : (axis : Axis) (shape : Shape) (x y : ℤ)
    → pos (nat_abs (pixel_along axis shape x y)) ≡ pixel_along axis shape x y
pixel_counted Horizontal shape x y = along_counted y shape.y shape.h
pixel_counted Vertical shape x y = along_counted x shape.x shape.w

below : (a b : ℤ) → int_lt a b ≡ true → a <ℤ b
below a b e = grind (arith, ints, e)

not_below : (a b : ℤ) → int_lt a b ≡ false → a <ℤ b → ⊥
not_below a b e h = grind (arith, ints, e, h)

upto : (a b : ℤ) → int_le a b ≡ true → a ≤ℤ b
upto a b e = grind (arith, ints, e)

not_upto : (a b : ℤ) → int_le a b ≡ false → a ≤ℤ b → ⊥
not_upto a b e h = grind (arith, ints, e, h)

pub edge_is_passed : (axis : Axis) (shape : Shape) (x y : ℤ)
    → Leaves (edge_passed axis shape x y) axis shape x y
edge_is_passed Horizontal shape x y =
    by (int_lt x shape.x) refl (int_le (shape.x +ℤ shape.w) x) refl
  where
    by : (b : Bool) → int_lt x shape.x ≡ b → (d : Bool) → int_le (shape.x +ℤ shape.w) x ≡ d
        → Leaves (option_map (edge_at Horizontal shape x y) (passed b d Left Right)) Horizontal
        shape x y
    by true e d k =
        one.passed Horizontal Left (nat_abs (pixel_along Horizontal shape x y)) shape x y refl
        (below x shape.x e) (pixel_counted Horizontal shape x y)
    by false e true k =
        one.passed Horizontal Right (nat_abs (pixel_along Horizontal shape x y)) shape x y refl
        (upto (shape.x +ℤ shape.w) x k) (pixel_counted Horizontal shape x y)
    by false e false k =
        inside_columns Horizontal shape x y refl (not_below x shape.x e)
        (not_upto (shape.x +ℤ shape.w) x k)
edge_is_passed Vertical shape x y = by (int_lt y shape.y) refl (int_le (shape.y +ℤ shape.h) y) refl
  where
    by : (b : Bool) → int_lt y shape.y ≡ b → (d : Bool) → int_le (shape.y +ℤ shape.h) y ≡ d
        → Leaves (option_map (edge_at Vertical shape x y) (passed b d Up Down)) Vertical shape x y
    by true e d k =
        one.passed Vertical Up (nat_abs (pixel_along Vertical shape x y)) shape x y refl
        (below y shape.y e) (pixel_counted Vertical shape x y)
    by false e true k =
        one.passed Vertical Down (nat_abs (pixel_along Vertical shape x y)) shape x y refl
        (upto (shape.y +ℤ shape.h) y k) (pixel_counted Vertical shape x y)
    by false e false k =
        inside_rows Vertical shape x y refl (not_below y shape.y e)
        (not_upto (shape.y +ℤ shape.h) y k)

-- ---- corners

listed : (corners : Corners) (corner : ℕ) → lists corners corner ≡ true → Lists corners corner
listed corners corner e h = grind (arith, nat_tests, e, h)

not_listed : (corners : Corners) (corner : ℕ) → Lists corners corner → lists corners corner ≡ true
not_listed corners corner h = by (bit_and corners.set corner == 0) refl
  where
    by : (b : Bool) → (bit_and corners.set corner == 0) ≡ b → not b ≡ true
    by true e = absurd (h (grind (arith, e)))
    by false e = refl

both : (a b : Bool) → (a && b) ≡ true → (a ≡ true) × (b ≡ true)
both a b h = (grind (arith, h), grind (arith, h))

either : (a b : Bool) → (a || b) ≡ true → (a ≡ true) ⊎ (b ≡ true)
either true b h = inl refl
either false b h = inr h

tested : (corners : Corners) (side : Side) (p n : ℕ) → is_in_corner corners side p n ≡ true
    → InCorner corners side p n
tested corners side p n h =
    let parts =
    both (nat_lt 0 corners.size)
    ((nat_lt p corners.size && lists corners (near_corner side))
    || (nat_le n (p + corners.size) && lists corners (far_corner side)))
    h in (
      grind (arith, nat_tests, parts.0),
      elim
          (either (nat_lt p corners.size && lists corners (near_corner side))
          (nat_le n (p + corners.size) && lists corners (far_corner side)) parts.1) [
            | inl near ↦ let both_near =
                both (nat_lt p corners.size) (lists corners (near_corner side)) near in
                inl (
                  grind (arith, nat_tests, both_near.0),
                  listed corners (near_corner side) both_near.1,
                )
            | inr far ↦ let both_far =
                both (nat_le n (p + corners.size)) (lists corners (far_corner side)) far in
                inr
                (grind (arith, nat_tests, both_far.0), listed corners (far_corner side) both_far.1)
          ],
    )

first_test : (a b c d e : Bool) → a ≡ true → b ≡ true → c ≡ true
    → (a && ((b && c) || (d && e))) ≡ true
first_test a b c d e h k l = grind (arith, h, k, l)

second_test : (a b c d e : Bool) → a ≡ true → d ≡ true → e ≡ true
    → (a && ((b && c) || (d && e))) ≡ true
second_test a b c d e h k l = grind (arith, h, k, l)

passes : (corners : Corners) (side : Side) (p n : ℕ) → InCorner corners side p n
    → is_in_corner corners side p n ≡ true
passes corners side p n (size, inl (near, is)) =
    let some : nat_lt 0 corners.size ≡ true = grind (arith, nat_tests, size) in
    let within : nat_lt p corners.size ≡ true = grind (arith, nat_tests, near) in
    first_test (nat_lt 0 corners.size) (nat_lt p corners.size) (lists corners (near_corner side))
    (nat_le n (p + corners.size)) (lists corners (far_corner side)) some within
    (not_listed corners (near_corner side) is)
passes corners side p n (size, inr (far, is)) =
    let some : nat_lt 0 corners.size ≡ true = grind (arith, nat_tests, size) in
    let within : nat_le n (p + corners.size) ≡ true = grind (arith, nat_tests, far) in
    second_test (nat_lt 0 corners.size) (nat_lt p corners.size) (lists corners (near_corner side))
    (nat_le n (p + corners.size)) (lists corners (far_corner side)) some within
    (not_listed corners (far_corner side) is)

pub corner_is_tested : (corners : Corners) (side : Side) (p n : ℕ)
    → (is_in_corner corners side p n ≡ true) ↔ InCorner corners side p n
corner_is_tested corners side p n = (tested corners side p n, passes corners side p n)
