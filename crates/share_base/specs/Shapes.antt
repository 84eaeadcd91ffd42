-- Shapes of screens, and their sides.
use Rattle.std.specs.Prelude.{Bool, true, false, pos, negsuc, ◌+ℤ◌, ◌≤ℤ◌}
use Rattle.share_base.specs.declared.shape.Shape.{Shape}
use Rattle.share_base.specs.declared.shape.Side.{Side}
use Rattle.share_base.specs.declared.shape.Side.TheVariants.{Left, Right, Up, Down}

-- a screen has such a shape: it isn't empty, and its pixels have coordinates of two bytes
pub record IsScreenShape (shape : Shape) : Type 0 where
  pub wide : pos 1 ≤ℤ shape.w
  pub width : shape.w ≤ℤ pos 32767
  pub high : pos 1 ≤ℤ shape.h
  pub height : shape.h ≤ℤ pos 32767
  pub first_column : negsuc 32767 ≤ℤ shape.x
  pub first_row : negsuc 32767 ≤ℤ shape.y
  pub columns : (shape.x +ℤ shape.w) ≤ℤ pos 32768
  pub rows : (shape.y +ℤ shape.h) ≤ℤ pos 32768

abbrev pub same_side : Side → Side → Bool
same_side Left Left = true
same_side Right Right = true
same_side Up Up = true
same_side Down Down = true
same_side _ _ = false
