-- Numbers drawn from a seed, by a linear congruence modulo 2 ^ 64.
use Rattle.std.specs.Prelude.{ℕ, zero, suc, ◌+◌, ◌*◌, ◌/◌, ◌%◌, ◌^◌}

-- the state after one draw more: what passes 64 bits is dropped
unfoldable pub next_state : ℕ → ℕ
next_state state = (state * 6364136223846793005 + 1442695040888963407) % 2 ^ 64

-- the state after so many draws from a seed
unfoldable pub state_after : ℕ → ℕ → ℕ
state_after seed zero = seed
state_after seed (suc draws) = next_state (state_after seed draws)

-- the number below a limit that is drawn after so many others: the upper 31 bits of the state,
-- modulo the limit
unfoldable pub drawn_after : ℕ → ℕ → ℕ → ℕ
drawn_after seed draws limit = state_after seed (draws + 1) / 2 ^ 33 % limit
