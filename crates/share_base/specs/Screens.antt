-- A set of screens, seen as a number.
use Rattle.std.specs.Prelude.{ℕ, Bool, ◌==◌}
use Rattle.std.specs.Int.{bit_at}

-- whether a screen is in the set: its bit is 1
unfoldable pub has : ℕ → ℕ → Bool
has set screen = bit_at set screen == 1
