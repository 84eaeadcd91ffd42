-- What a call does to the states that a server may be in.
use Rattle.std.specs.Prelude.{◌≡◌, ℕ, true}
use Rattle.machine.specs.Targets.{Target}
use Rattle.machine.specs.States.{State}
use Rattle.machine.specs.Screens.{lives}
use Rattle.server_core.specs.declared.server.ServerCore.{ServerCore}
use Rattle.server_core.specs.Standing.{Beside, Stands}
use Rattle.server_core.specs.Targets.{IsThere}

-- from each state by that rule of the machine
abbrev pub Leads : ServerCore → ServerCore → (State → State) → Type 0
Leads old new rule = (b : Beside) (s : State) → Stands b old s → Stands b new (rule s)

-- from each state of which that holds
abbrev pub LeadsWhere : (State → Type 0) → ServerCore → ServerCore → (State → State) → Type 0
LeadsWhere P old new rule = (b : Beside) (s : State) → P s → Stands b old s → Stands b new (rule s)

-- from each state in which that target is there
abbrev pub LeadsAt : Target → ServerCore → ServerCore → (State → State) → Type 0
LeadsAt target old new rule = LeadsWhere (λ s. IsThere s target) old new rule

-- from each state in which the connection of that serial is there and isn't parting
abbrev pub LeadsLiving : ℕ → ServerCore → ServerCore → (State → State) → Type 0
LeadsLiving serial old new rule = LeadsWhere (λ s. lives s serial ≡ true) old new rule

-- the answer is what the machine's definition gives, in each state
abbrev pub Reads : {A : Type 0} → ServerCore → A → (State → A) → Type 0
Reads core answer f = (b : Beside) (s : State) → Stands b core s → answer ≡ f s
