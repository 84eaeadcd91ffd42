-- Connections that are too slow to take what is told them.
use Rattle.std.specs.Prelude.{Bool, ◌&&◌, length, Option}
use Rattle.std.specs.List.{find}
use Rattle.hello_states.specs.declared.part_cause.PartCause.TheVariants as cause
use Rattle.machine.specs.Connections.{Connection, is_live}
use Rattle.machine.specs.States.{State}
use Rattle.machine.specs.Queues.{is_slow}
use Rattle.machine.specs.Combining.{for_some, times, unchanged}
use Rattle.machine.specs.Partings.{part}

-- a frame for it was left out of its queue, and it isn't parting yet
abbrev pub is_too_slow : State → Connection → Bool
is_too_slow s c = is_live c && is_slow s.routed c.serial

-- the one of least serial
abbrev pub first_slow : State → Option Connection
first_slow s = find (is_too_slow s) s.connections

abbrev pub part_first_slow : State → State
part_first_slow s = for_some (first_slow s) (λ c. part cause.Slow c.serial) unchanged s

-- one after another until none is left; each parts once, so there are no more turns than
-- connections
abbrev pub part_slow : State → State
part_slow s = times (length s.connections) part_first_slow s
