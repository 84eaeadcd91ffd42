-- What the calls of a table find, and what they do by serial.
use Rattle.std.specs.Prelude.{ℕ, Bool, false, not, ◌&&◌, ◌==◌, List, filter}
use Rattle.std.specs.Option.{option_map_or}
use Rattle.hello_states.specs.Phases.{is_parting, joined_screen}
use Rattle.machine.specs.Screens.{is_number}
use Rattle.connection_table.specs.declared.connection.Connection.{Connection}
use Rattle.connection_table.specs.PhaseOf.{phase_of}
use Rattle.connection_table.specs.FirstOf.{FirstChanges}

abbrev pub is_of : ℕ → Connection → Bool
is_of serial c = c.serial == serial

-- those of another serial
abbrev pub without : ℕ → List Connection → List Connection
without serial connections = filter (λ c. not (is_of serial c)) connections

abbrev pub is_joined_as : ℕ → Connection → Bool
is_joined_as screen c = option_map_or (is_number screen) (joined_screen (phase_of c.phase)) false

abbrev pub is_too_slow : Connection → Bool
is_too_slow c = not (is_parting (phase_of c.phase)) && c.queue.is_slow

-- the connection of that serial changes as the relation says, and no other one does
abbrev pub ChangesAt : ℕ → (Connection → Connection → Type 0) → List Connection → List Connection
    → Type 0
ChangesAt serial R old new = FirstChanges (is_of serial) R old new
