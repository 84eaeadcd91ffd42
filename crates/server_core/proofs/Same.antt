-- Targets that are the same.
use Rattle.std.specs.Prelude.{◌≡◌, refl, ℕ, ◌==◌}
use Rattle.std.proofs.Common.{arith}
use Rattle.machine.specs.Targets.{Target, Primary, Client, same_target}

pub same-turned : (t u : Target) → same_target t u ≡ same_target u t
same-turned Primary Primary = refl
same-turned Primary (Client n) = refl
same-turned (Client m) Primary = refl
same-turned (Client m) (Client n) = equal m n
  where
    equal : (m n : ℕ) → (m == n) ≡ (n == m)
    equal m n = grind arith
