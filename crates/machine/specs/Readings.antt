-- What is read off a state: who is read from and who is to be closed, when something is due, and
-- whether the run is over.
use Rattle.std.specs.Prelude.{ℕ, ◌+◌, min, Bool, true, false, not, ◌&&◌, ◌||◌, ◌==◌, nat_le, List, [], ◌∷◌, ◌++◌, length, fold, Option}
use Rattle.std.specs.List.{find, flat_map}
use Rattle.std.specs.Option.{option_map, option_to_list}
use Rattle.edge_cross.specs.declared.gate.Waiting.{Waiting}
use Rattle.keepalive_clock.specs.KeepAlive.{due_moment}
use Rattle.hello_states.specs.Phases.{Phase, Joined, Parting, silence_of, closing_time}
use Rattle.machine.specs.Scripts.{Line}
use Rattle.machine.specs.Connections.{Connection}
use Rattle.machine.specs.States.{State}
use Rattle.machine.specs.Screens.{lives, has_untaken, screen_of}
use Rattle.machine.specs.GateCalls.{waiting}
use Rattle.machine.specs.Running.{may_run}

-- ---- connections

abbrev pub reads : State → ℕ → Bool
reads s serial = lives s serial

abbrev pub accepts : State → Bool
accepts s = not s.has_quit

-- it is parting, and nothing is to be taken any more, or its time is over
abbrev pub is_to_close_in : Phase → State → Connection → Bool
is_to_close_in (Parting cause moment) s c =
    not (has_untaken s c) || nat_le (moment + closing_time) s.at
is_to_close_in _ s c = false

abbrev pub is_to_close : State → Connection → Bool
is_to_close s c = is_to_close_in c.phase s c

-- the one of least serial
abbrev pub closing : State → Option ℕ
closing s = option_map (λ (c : Connection). c.serial) (find (is_to_close s) s.connections)

abbrev pub is_over : State → Bool
is_over s = s.has_quit && (length s.connections == 0)

-- the number of the active screen
abbrev pub active_screen : State → ℕ
active_screen s = screen_of s s.active

-- ---- what is due

abbrev pub only_if : Bool → List ℕ → List ℕ
only_if true moments = moments
only_if false moments = []

-- the next beat and the death of a joined connection, the silence of one that hasn't joined, the
-- end of a parting's time
abbrev pub due_in : Phase → State → Connection → List ℕ
due_in (Joined joined) s c = option_to_list (due_moment joined.alive)
due_in (Parting cause moment) s c = only_if (has_untaken s c) ((moment + closing_time) ∷ [])
due_in phase s c = option_to_list (silence_of phase)

abbrev pub gate_due : State → List ℕ
gate_due s = option_to_list (option_map (λ (w : Waiting). w.due) (waiting s))

-- the machine's own moment, where the next line may run
abbrev pub line_due : State → List Line → List ℕ
line_due s [] = []
line_due s (l ∷ ahead) = only_if (may_run s l) (s.at ∷ [])

-- the end of a sleep that holds the script
abbrev pub sleep_due : State → List ℕ
sleep_due s =
    only_if (not s.has_quit)
    (flat_map (λ end. only_if (not (nat_le end s.at)) (end ∷ [])) (option_to_list s.sleeps_until))

abbrev pub all_due : State → List ℕ
all_due s =
    flat_map (λ (c : Connection). due_in c.phase s c) s.connections ++ gate_due s ++ sleep_due s
    ++ line_due s s.lines

abbrev pub never : ℕ
never = 18446744073709551615

abbrev pub due : State → ℕ
due s = fold min never (all_due s)
