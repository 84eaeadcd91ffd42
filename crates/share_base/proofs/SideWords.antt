-- The words of the sides.
use Rattle.std.proofs.Common.{◌≡◌, Some, refl}
use Rattle.share_base.specs.declared.shape.Side.{Side}
use Rattle.share_base.specs.declared.shape.Side.TheVariants as side
use Rattle.share_base.specs.Sides.{side_text, side_named}

-- each is found again
pub side_found : (s : Side) → side_named (side_text s) ≡ Some s
side_found side.Left = refl
side_found side.Right = refl
side_found side.Up = refl
side_found side.Down = refl
