-- What a moment brings before lines run: deaths, silences, beats, and a gate whose wait is over.
use Rattle.std.specs.Prelude.{ℕ, max, Bool, nat_le}
use Rattle.message_codec.specs.declared.messages.Msg.TheVariants as msg
use Rattle.edge_cross.specs.declared.gate.Waiting.{Waiting}
use Rattle.share_base.specs.Moments.{moment_of}
use Rattle.hello_states.specs.declared.part_cause.PartCause.TheVariants as cause
use Rattle.hello_states.specs.Phases.{is_dead_in, is_silent, is_beat_due_in, after_beat_in}
use Rattle.machine.specs.Targets.{Client, Own}
use Rattle.machine.specs.Connections.{Connection, serials}
use Rattle.machine.specs.States.{State}
use Rattle.machine.specs.Combining.{when, for_some, for_each, unchanged}
use Rattle.machine.specs.Screens.{connection, change}
use Rattle.machine.specs.Routing.{route}
use Rattle.machine.specs.GateCalls.{waiting, hear_away}
use Rattle.machine.specs.Edges.{way, edge_at_cursor}
use Rattle.machine.specs.Crossing.{Cross, Stay, Switch, through}
use Rattle.machine.specs.Switching.{switch}
use Rattle.machine.specs.Partings.{part}
use Rattle.machine.specs.Slow.{part_slow}

-- a lower moment changes nothing
abbrev pub clock : ℕ → State → State
clock t s = record s { at = max s.at (moment_of t) }

-- ---- of connections

-- what a timer does to one connection, where it has come
abbrev pub timer : (State → Connection → Bool) → (ℕ → State → State) → ℕ → State → State
timer has_come rule serial s =
    for_some (connection s serial) (λ c. when (has_come s c) (λ t. part_slow (rule serial t)))
    unchanged s

-- and to each, by rising serial
abbrev pub timers : (State → Connection → Bool) → (ℕ → State → State) → State → State
timers has_come rule s = for_each (serials s.connections) (timer has_come rule) s

abbrev pub has_died : State → Connection → Bool
has_died s c = is_dead_in c.phase s.at

abbrev pub was_silent : State → Connection → Bool
was_silent s c = is_silent c.phase s.at

abbrev pub owes_beat : State → Connection → Bool
owes_beat s c = is_beat_due_in c.phase s.at

abbrev pub sent_beat : ℕ → Connection → Connection
sent_beat now c = record c { phase = after_beat_in c.phase now }

abbrev pub beat : ℕ → State → State
beat serial s = route Own (Client serial) msg.Alive (change serial (sent_beat s.at) s)

abbrev pub deaths : State → State
deaths s = timers has_died (part cause.Dead) s

abbrev pub silences : State → State
silences s = timers was_silent (part cause.Silent) s

abbrev pub beats : State → State
beats s = timers owes_beat beat s

-- ---- of the gate

abbrev pub switch_through : Cross → State → State
switch_through (Stay p) s = s
switch_through (Switch to p) s = switch Own to p s

-- the edge of that side at the cursor is tried without the gate, and the wait ends
abbrev pub try : Waiting → State → State
try w s =
    for_some (way s (edge_at_cursor s w.side)) (λ v t. switch_through (through t v) t) unchanged
    (hear_away s)

abbrev pub gate_timer : State → State
gate_timer s =
    for_some (waiting s) (λ w. when (nat_le w.due s.at) (λ t. part_slow (try w t))) unchanged s

-- ---- in order

abbrev pub after_timers : ℕ → State → State
after_timers t s = gate_timer (beats (silences (deaths (clock t s))))
