-- Places along a side, in millionths of it, and pixels.
use Rattle.std.specs.Prelude.{ℕ, ◌+◌, ◌*◌, ◌/◌}

-- the place of the middle of pixel p, on a side of n pixels
abbrev pub place_of : ℕ → ℕ → ℕ
place_of p n = (2 * p + 1) * 1000000 / (2 * n)

-- the pixel in which a place lies, on a side of n pixels
abbrev pub pixel_of : ℕ → ℕ → ℕ
pixel_of t n = t * n / 1000000
