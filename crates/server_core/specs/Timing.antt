-- What the clock brings to a connection: when it comes, and what the machine then does.
use Rattle.std.specs.Prelude.{ℕ, Bool, false, Option}
use Rattle.std.specs.List.{slice_get}
use Rattle.std.specs.Option.{option_map_or, option_to_list}
use Rattle.hello_states.specs.declared.part_cause.PartCause.TheVariants as cause
use Rattle.machine.specs.Connections.{Connection, serials}
use Rattle.machine.specs.States.{State}
use Rattle.machine.specs.Combining.{for_each}
use Rattle.machine.specs.Screens.{connection}
use Rattle.machine.specs.Partings.{part}
use Rattle.machine.specs.Timers as machine
use Rattle.server_core.specs.declared.timers.Timer.{Timer}
use Rattle.server_core.specs.declared.timers.Timer.TheVariants as timer

abbrev pub test_of : Timer → State → Connection → Bool
test_of timer.Death = machine.has_died
test_of timer.Silence = machine.was_silent
test_of timer.Beat = machine.owes_beat

abbrev pub rule_of : Timer → ℕ → State → State
rule_of timer.Death = part cause.Dead
rule_of timer.Silence = part cause.Silent
rule_of timer.Beat = machine.beat

-- it has come for the connection of that serial
abbrev pub has_come : Timer → ℕ → State → Bool
has_come t serial s = option_map_or (test_of t s) (connection s serial) false

-- what it does to that one
abbrev pub for_one : Timer → ℕ → State → State
for_one t serial s = machine.timer (test_of t) (rule_of t) serial s

-- to each, by rising serial
abbrev pub for_all : Timer → State → State
for_all t s = machine.timers (test_of t) (rule_of t) s

-- ---- by places

abbrev pub serial_at : ℕ → State → Option ℕ
serial_at place s = slice_get (serials s.connections) place

-- to the one at that place, where there is one
abbrev pub for_place : Timer → ℕ → State → State
for_place t place s = for_each (option_to_list (serial_at place s)) (for_one t) s
