-- What a motion does once it is known whether it leaves the screen.
use Rattle.std.specs.Prelude.{ℕ, unwrap_or}
use Rattle.machine.specs.Targets.{Target, Primary, Origin}
use Rattle.machine.specs.States.{State, Point}
use Rattle.machine.specs.Screens.{target_of}
use Rattle.machine.specs.Edges.{Way}
use Rattle.machine.specs.Crossing.{Cross, Stay, Switch, stay, through}
use Rattle.machine.specs.Switching.{switch}
use Rattle.machine.specs.Events.{moved}

-- who has a screen; the primary where nobody is joined as it
abbrev pub holder : State → ℕ → Target
holder s screen = unwrap_or (target_of s screen) Primary

-- the cursor stays on the active screen, as near to the point as it can
abbrev pub stays_near : ℕ → Point → State → State
stays_near number p s = moved number (stay s p) s

abbrev pub switch_by : Origin → Cross → State → State
switch_by o (Stay p) s = s
switch_by o (Switch to p) s = switch o to p s

-- it leaves through a way out
abbrev pub goes_through : Origin → Way → State → State
goes_through o w s = switch_by o (through s w) s
