-- The start, and the acceptance of a connection.
use Rattle.std.specs.Prelude.{ℕ, false, nat_le, pos, None, [], ◌∷◌, ◌++◌, length}
use Rattle.share_base.specs.declared.shape.Shape.{Shape}
use Rattle.message_codec.specs.declared.messages.Msg.TheVariants as msg
use Rattle.screen_config.specs.Configurations.{Configuration}
use Rattle.share_base.specs.Moments.{moment_of}
use Rattle.hello_states.specs.declared.part_cause.PartCause.TheVariants as cause
use Rattle.clip_chunks.specs.Rules.{first_clips}
use Rattle.machine.specs.Scripts.{Script}
use Rattle.machine.specs.Targets.{Primary, Client, Own}
use Rattle.machine.specs.Connections.{fresh}
use Rattle.machine.specs.States.{State, Open}
use Rattle.machine.specs.Combining.{choose}
use Rattle.machine.specs.Screens.{middle}
use Rattle.machine.specs.Routing.{route, logs}
use Rattle.machine.specs.Partings.{part}

-- ---- the start

abbrev pub first_shape : Script → Shape
first_shape script = record { x = pos 0; y = pos 0; w = pos script.width; h = pos script.height }

-- the primary is active, with the cursor at its middle
abbrev pub start : Configuration → Script → ℕ → State
start config script now = record {
  config = config;
  primary = script.primary;
  primary_shape = first_shape script;
  lines = script.lines;
  ran = 0;
  sleeps_until = None;
  has_quit = false;
  at = moment_of now;
  connections = [];
  active = Primary;
  cursor = middle (first_shape script);
  sequence = 0;
  is_locked = false;
  gate_calls = [];
  presses = [];
  buttons = [];
  taken_keys = [];
  taken_buttons = [];
  clips = first_clips script.primary;
  routed = [];
  log = [];
}

-- ---- acceptance

abbrev pub most_open : ℕ
most_open = 64

abbrev pub opened : ℕ → State → State
opened serial s =
    logs (Open serial ∷ []) (record s { connections = s.connections ++ fresh serial s.at ∷ [] })

abbrev pub greet : ℕ → State → State
greet serial s = route Own (Client serial) (msg.Hello 1 6) s

-- where as many are open as may be, the new one parts at once
abbrev pub accept : ℕ → State → State
accept serial s =
    choose (nat_le most_open (length s.connections)) (part cause.Full serial) (greet serial)
    (opened serial s)
