-- Whether a connection is too slow, in the states that a server may be in.
use Rattle.std.specs.Prelude.{◌≡◌, None}
use Rattle.machine.specs.States.{State}
use Rattle.machine.specs.Slow.{first_slow}
use Rattle.server_core.specs.declared.server.ServerCore.{ServerCore}
use Rattle.server_core.specs.Standing.{Beside, Stands}

abbrev pub NoneIsSlow : ServerCore → Type 0
NoneIsSlow core = (b : Beside) (s : State) → Stands b core s → first_slow s ≡ None
