-- Whether a kept connection uses a screen.
use Rattle.std.specs.Prelude.{ℕ, Bool, false}
use Rattle.std.specs.Option.{option_map_or}
use Rattle.hello_states.specs.Phases.{used_screen}
use Rattle.machine.specs.Screens.{is_number}
use Rattle.connection_table.specs.declared.connection.Connection.{Connection}
use Rattle.connection_table.specs.PhaseOf.{phase_of}

abbrev pub is_using : ℕ → Connection → Bool
is_using screen c = option_map_or (is_number screen) (used_screen (phase_of c.phase)) false
