-- What is still read off a server at a run's end, when the active screen may be gone.
use Rattle.std.specs.Prelude.{◌≡◌}
use Rattle.machine.specs.States.{State}
use Rattle.server_core.specs.declared.server.ServerCore.{ServerCore}
use Rattle.server_core.specs.Standing.{Beside, Leaves}

-- the answer is what the machine's definition gives, in each state
abbrev pub ReadsAtEnd : {A : Type 0} → ServerCore → A → (State → A) → Type 0
ReadsAtEnd core answer f = (b : Beside) (s : State) → Leaves b core s → answer ≡ f s
