-- Two sides that the test finds the same are one side.
use Rattle.std.proofs.Common.{◌≡◌, true, refl}
use Rattle.share_base.specs.declared.shape.Side.{Side}
use Rattle.share_base.specs.declared.shape.Side.TheVariants.{Left, Right, Up, Down}
use Rattle.share_base.specs.Shapes.{same_side}

pub same_side_refl : (s : Side) → same_side s s ≡ true
same_side_refl Left = refl
same_side_refl Right = refl
same_side_refl Up = refl
same_side_refl Down = refl

pub one_side : (s t : Side) → same_side s t ≡ true → t ≡ s
one_side Left Left e = refl
one_side Right Right e = refl
one_side Up Up e = refl
one_side Down Down e = refl
one_side s t e = absurd cc
