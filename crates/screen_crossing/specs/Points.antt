-- Points of screens, as the machine's definitions have them.
use Rattle.std.specs.Prelude.{pos, negsuc, ◌≤ℤ◌}
use Rattle.machine.specs.States as machine
use Rattle.screen_crossing.specs.declared.point.Point.{Point}

abbrev pub point_of : Point → machine.Point
point_of p = record { x = p.x; y = p.y }

-- its coordinates are of two bytes, as those of each pixel of a screen
pub record IsPixel (p : Point) : Type 0 where
  pub left : negsuc 32767 ≤ℤ p.x
  pub right : p.x ≤ℤ pos 32767
  pub top : negsuc 32767 ≤ℤ p.y
  pub bottom : p.y ≤ℤ pos 32767
