-- The corners of a screen, and the pixels of a side that lie in them.
use Rattle.std.specs.Prelude.{ℕ, ◌+◌, ◌<◌, ◌≤◌, ◌≢◌, ◌⊎◌, bit_and}
use Rattle.share_base.specs.declared.shape.Side.{Side}
use Rattle.share_base.specs.declared.shape.Side.TheVariants.{Left, Right, Up, Down}
use Rattle.share_base.specs.declared.corners.Corners.{Corners}

-- the corner at a side's first pixel: top-left 1, top-right 2, bottom-left 4 or bottom-right 8
abbrev pub near_corner : Side → ℕ
near_corner Left = 1
near_corner Right = 2
near_corner Up = 1
near_corner Down = 4

-- the corner at its last pixel
abbrev pub far_corner : Side → ℕ
far_corner Left = 4
far_corner Right = 8
far_corner Up = 2
far_corner Down = 8

abbrev pub Lists : Corners → ℕ → Type 0
Lists corners corner = bit_and corners.set corner ≢ 0

-- the corners have a size, and the pixel lies in a near or far corner that is listed
abbrev pub InCorner : Corners → Side → ℕ → ℕ → Type 0
InCorner corners side p n =
    (0 < corners.size)
    × (((p < corners.size) × Lists corners (near_corner side))
    ⊎ ((n ≤ p + corners.size) × Lists corners (far_corner side)))
