-- A serial that is new.
use Rattle.std.specs.Prelude.{◌≡◌, ℕ, ◌<◌, List, [], ◌∷◌}
use Rattle.machine.specs.Targets.{Client}
use Rattle.machine.specs.Connections.{Connection}
use Rattle.machine.specs.States.{State}
use Rattle.machine.specs.Queues.{entries_for}
use Rattle.server_core.specs.declared.server.ServerCore.{ServerCore}
use Rattle.server_core.specs.Standing.{Beside, Stands, IsBlank}

abbrev pub AllBelow : ℕ → List Connection → Type 0
AllBelow serial [] = Unit {0}
AllBelow serial (c ∷ cs) = (c.serial < serial) × AllBelow serial cs

-- every connection has a lower one, and nothing was routed to it
pub record IsNew (serial : ℕ) (s : State) : Type 0 where
  pub some : 0 < serial
  pub above : AllBelow serial s.connections
  pub untold : entries_for (Client serial) s.routed ≡ []

-- from each state of which that serial is new
abbrev pub LeadsNew : ℕ → ServerCore → ServerCore → (State → State) → Type 0
LeadsNew serial old new rule =
    (b : Beside) (s : State) → IsBlank serial b → IsNew serial s → Stands b old s
    → Stands b new (rule s)
