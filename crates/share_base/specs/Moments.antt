-- Moments, in milliseconds. They end at a last one, so that a moment and a few 32-bit delays fit in
-- 64 bits.
use Rattle.std.specs.Prelude.{ℕ, ◌^◌, min}

abbrev pub last_moment : ℕ
last_moment = 2 ^ 62

-- the moment that a number of milliseconds counts as: past the last moment, the last
abbrev pub moment_of : ℕ → ℕ
moment_of milliseconds = min milliseconds last_moment
