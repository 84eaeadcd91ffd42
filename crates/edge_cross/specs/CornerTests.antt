-- Whether a pixel lies in a listed corner, as a test.
use Rattle.std.specs.Prelude.{ℕ, ◌+◌, Bool, not, ◌&&◌, ◌||◌, ◌==◌, nat_le, nat_lt, bit_and}
use Rattle.share_base.specs.declared.shape.Side.{Side}
use Rattle.share_base.specs.declared.corners.Corners.{Corners}
use Rattle.edge_cross.specs.InCorners.{near_corner, far_corner}

abbrev pub lists : Corners → ℕ → Bool
lists corners corner = not (bit_and corners.set corner == 0)

abbrev pub is_in_corner : Corners → Side → ℕ → ℕ → Bool
is_in_corner corners side p n =
    nat_lt 0 corners.size
    && ((nat_lt p corners.size && lists corners (near_corner side))
    || (nat_le n (p + corners.size) && lists corners (far_corner side)))
