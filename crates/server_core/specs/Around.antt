-- The surroundings of the cursor, as a server has them.
use Rattle.machine.specs.States.{State}
use Rattle.screen_crossing.specs.declared.surroundings.Surroundings.{Surroundings}
use Rattle.screen_crossing.specs.Showing.{Shows}
use Rattle.server_core.specs.declared.server.ServerCore.{ServerCore}
use Rattle.server_core.specs.Standing.{Beside, Stands}

-- in each state that the server may be in
abbrev pub AreAround : ServerCore → Surroundings → Type 0
AreAround core r = (b : Beside) (s : State) → Stands b core s → Shows r core.config s
