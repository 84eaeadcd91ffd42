-- Whom the server means by a target.
use Rattle.std.specs.Prelude.{◌≡◌, true, List}
use Rattle.std.specs.List.{list_any}
use Rattle.machine.specs.Targets as machine
use Rattle.machine.specs.Connections.{Connection, has_serial}
use Rattle.machine.specs.States.{State}
use Rattle.server_core.specs.declared.target.Target as kept
use Rattle.server_core.specs.declared.target.Target.TheVariants as target

abbrev pub meant : kept.Target → machine.Target
meant target.Primary = machine.Primary
meant (target.Client serial) = machine.Client serial

-- the primary, or a connection that is open
abbrev pub IsOpenIn : List Connection → machine.Target → Type 0
IsOpenIn connections machine.Primary = Unit {0}
IsOpenIn connections (machine.Client serial) = list_any (has_serial serial) connections ≡ true

abbrev pub IsThere : State → machine.Target → Type 0
IsThere s t = IsOpenIn s.connections t
