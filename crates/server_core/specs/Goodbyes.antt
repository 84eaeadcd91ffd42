-- A goodbye to the connection of an index.
use Rattle.std.specs.Prelude.{ℕ, slice_get}
use Rattle.std.specs.Option.{option_to_list}
use Rattle.machine.specs.Connections.{serials}
use Rattle.machine.specs.States.{State}
use Rattle.machine.specs.Combining.{for_each}
use Rattle.machine.specs.Running.{say_bye}

-- where there is none, nothing changes
abbrev pub say_bye_at : ℕ → State → State
say_bye_at index s = for_each (option_to_list (slice_get (serials s.connections) index)) say_bye s
