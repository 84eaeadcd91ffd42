use Rattle.std.proofs.Common.{◌≡◌, ℕ, ◌<◌, false, get_or}
use Rattle.held_inputs.proofs.held.Held.is_clear.Given as goal

abbrev pub invariant-loop-down : goal.invariant-loop-down
invariant-loop-down l = (k : ℕ) → k < l.down-index → get_or l.self.buttons k false ≡ false
