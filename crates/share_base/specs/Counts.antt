-- Counts of 64 bits: they rise by one and stand still at their last value.
use Rattle.std.specs.Prelude.{ℕ, ◌+◌, ◌-◌, ◌^◌, ◌≤◌, min}

-- the count after one more
abbrev pub one_more : ℕ → ℕ
one_more count = min (count + 1) (2 ^ 64 - 1)

-- the count rose: it is at least one more. A count that stands at its last value counts as risen
abbrev pub Rises : ℕ → ℕ → Type 0
Rises old new = (old ≤ new) × (one_more old ≤ new)
