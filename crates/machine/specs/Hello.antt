-- The answer to the greeting: a connection that names a free screen is asked for its information.
use Rattle.std.specs.Prelude.{ℕ, Bool, ◌||◌, ◌==◌, false, List}
use Rattle.std.specs.List.{list_any}
use Rattle.std.specs.Option.{option_map_or}
use Rattle.message_codec.specs.declared.messages.Msg.TheVariants as msg
use Rattle.option_table.specs.declared.rows.OptionName.TheVariants as option
use Rattle.option_table.specs.Settings.{standing}
use Rattle.screen_config.specs.Configurations.{screen_of}
use Rattle.hello_states.specs.Phases.{used_screen}
use Rattle.hello_states.specs.Handshake.{HelloAnswer, Refused, Admitted, hello_answer, after_hello}
use Rattle.machine.specs.Targets.{Client, Own}
use Rattle.machine.specs.Connections.{Connection, advanced}
use Rattle.machine.specs.States.{State}
use Rattle.machine.specs.Screens.{change, is_number}
use Rattle.machine.specs.Routing.{route}
use Rattle.machine.specs.Partings.{part}

-- milliseconds between two beats
abbrev pub rate : State → ℕ
rate s = standing s.config.settings option.Heartbeat

abbrev pub uses : ℕ → Connection → Bool
uses screen c = option_map_or (is_number screen) (used_screen c.phase) false

-- the screen is the primary, or that of a connection that was asked or is joined
abbrev pub is_used : State → ℕ → Bool
is_used s screen = (screen == s.primary) || list_any (uses screen) s.connections

-- a refused one parts for the cause
abbrev pub answer : HelloAnswer → ℕ → ℕ → State → State
answer (Refused cause) accepted serial s = part cause serial s
answer (Admitted screen) accepted serial s =
    change serial (advanced (after_hello (Admitted screen) accepted (rate s) s.at))
    (route Own (Client serial) msg.QueryInfo s)

-- from a connection that was accepted at that moment
abbrev pub hear_hello : ℕ → ℕ → List ℕ → ℕ → ℕ → State → State
hear_hello major minor name accepted serial s =
    answer (hello_answer major minor (screen_of s.config name) (is_used s)) accepted serial s
