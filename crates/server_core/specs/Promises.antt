-- A server in a state that was reached from its start, and what then holds of it.
use Rattle.std.specs.Prelude.{◌≡◌, ℕ, List, Some}
use Rattle.screen_config.specs.Configurations.{Configuration}
use Rattle.screen_config.specs.Sound.{IsSound}
use Rattle.script_screen.specs.Scripts.{ScriptText}
use Rattle.machine.specs.States.{State}
use Rattle.machine.specs.Logs.{log_text}
use Rattle.machine.specs.Happenings.{Happening, Closed, IsAllowed, IsOpen, latest_after}
use Rattle.machine.specs.Readings.{closing}
use Rattle.machine.specs.Steps.{step}
use Rattle.machine.specs.Held.{HasScriptButtons, OnlyActiveHolds}
use Rattle.machine.specs.NothingLeftOut.{NothingIsLeftOut}
use Rattle.machine.specs.OneForOne.{IsOneForOne, lines_run}
use Rattle.reached_states.specs.Reaching.{Origin, start_of, Reached}
use Rattle.server_core.specs.declared.server.ServerCore.{ServerCore}
use Rattle.server_core.specs.Scripts.{script_of}
use Rattle.server_core.specs.Driving.{serves_in, departs_in}

-- what a server is started on
abbrev pub origin : Configuration → ScriptText → ℕ → Origin
origin config script now = record { config = config; script = script_of script; now = now }

-- it keeps its limits
pub record IsStart (o : Origin) : Type 0 where
  pub config : IsSound o.config
  pub script : HasScriptButtons o.script

-- with that front of its log cleared
pub record RunsIn (in_state : ServerCore → List ℕ → State → Type 0) (o : Origin) (latest : ℕ)
    (front : List ℕ) (core : ServerCore) (s : State) : Type 0
  where
    pub begins : IsStart o
    pub reached : Reached o latest s
    pub is_in : in_state core front s
    -- the laws of the machine
    pub held : OnlyActiveHolds s
    pub left_out : NothingIsLeftOut s
    pub one_for_one : IsOneForOne (lines_run reached.happenings (start_of o)) s

abbrev pub Runs : Origin → ℕ → List ℕ → ServerCore → State → Type 0
Runs o latest front core s = RunsIn serves_in o latest front core s

-- as a run ends, when the active screen may be gone
abbrev pub RunsOut : Origin → ℕ → List ℕ → ServerCore → State → Type 0
RunsOut o latest front core s = RunsIn departs_in o latest front core s

-- ---- what the calls keep

-- it goes on running, by a happening that may come
abbrev pub GoesOnRunning : Happening → ServerCore → ServerCore → Type 0
GoesOnRunning h old new =
    (o : Origin) (latest : ℕ) (front : List ℕ) (s : State) → Runs o latest front old s
    → IsAllowed latest s h
    → Runs o (latest_after latest h) front new (step s h)

-- and by the closing of that one, where it is the one to be closed now
abbrev pub ClosesRunning : ℕ → ServerCore → ServerCore → Type 0
ClosesRunning serial old new =
    (o : Origin) (latest : ℕ) (front : List ℕ) (s : State) → Runs o latest front old s
    → closing s ≡ Some serial
    → Runs o latest front new (step s (Closed serial))

-- as a run ends, by the closing of any open one
abbrev pub ClosesAtEnd : ℕ → ServerCore → ServerCore → Type 0
ClosesAtEnd serial old new =
    (o : Origin) (latest : ℕ) (front : List ℕ) (s : State) → RunsOut o latest front old s
    → IsOpen s serial
    → RunsOut o latest front new (step s (Closed serial))

-- a cleared log changes its front alone
abbrev pub ClearsRunning : ServerCore → ServerCore → Type 0
ClearsRunning old new =
    (o : Origin) (latest : ℕ) (front : List ℕ) (s : State) → Runs o latest front old s
    → Runs o latest (log_text s) new s

abbrev pub ClearsAtEnd : ServerCore → ServerCore → Type 0
ClearsAtEnd old new =
    (o : Origin) (latest : ℕ) (front : List ℕ) (s : State) → RunsOut o latest front old s
    → RunsOut o latest (log_text s) new s
