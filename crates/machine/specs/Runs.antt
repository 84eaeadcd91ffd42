-- Lists of happenings that may come to a machine, one after another.
use Rattle.std.specs.Prelude.{ℕ, List, [], ◌∷◌}
use Rattle.machine.specs.States.{State}
use Rattle.machine.specs.Happenings.{Happening, IsAllowed, latest_after}
use Rattle.machine.specs.Steps.{step}

abbrev pub AreAllowed : ℕ → State → List Happening → Type 0
AreAllowed latest s [] = Unit {0}
AreAllowed latest s (h ∷ hs) =
    IsAllowed latest s h × AreAllowed (latest_after latest h) (step s h) hs
