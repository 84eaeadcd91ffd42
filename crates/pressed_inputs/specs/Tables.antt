-- Tables with an entry for each number of a button.
use Rattle.std.specs.Prelude.{◌≡◌, ℕ, ◌<◌, List, length, Some, slice_get}

-- the table has, for each number below 256, what a function gives for it
pub record Tabulates (A : Type 0) (table : List A) (entry : ℕ → A) : Type 0 where
  pub long : length table ≡ 256
  pub each : (n : ℕ) → n < 256 → slice_get table n ≡ Some (entry n)
