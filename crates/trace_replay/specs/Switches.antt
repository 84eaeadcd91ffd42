-- What a run over a trace comes to, beside its log: how it may end, and how often a screen was
-- entered.
use Rattle.std.specs.Prelude.{◌≡◌, ℕ, List}
use Rattle.share_base.specs.Writing.{SinkState}
use Rattle.screen_config.specs.Configurations.{Configuration}
use Rattle.script_screen.specs.Scripts.{ScriptText}
use Rattle.script_screen.specs.declared.trace.TraceLine.{TraceLine}
use Rattle.machine.specs.States.{State}
use Rattle.engine_loop.specs.declared.serve_end.ServeEnd.{ServeEnd}
use Rattle.engine_loop.specs.declared.serve_end.ServeEnd.TheVariants as ends
use Rattle.trace_replay.specs.Replaying.{Replayed}

-- a trace is over before the waits are used up, and no wait on its hub fails
abbrev pub IsReplayEnd : ServeEnd → Type 0
IsReplayEnd ends.TurnsSpent = ⊥
IsReplayEnd ends.HubFault = ⊥
IsReplayEnd end = Unit {0}

-- the sequence number of the latest entering, unless memory ran out
abbrev pub AreSwitches : ServeEnd → ℕ → State → Type 0
AreSwitches ends.OutOfMemory switches s = Unit {0}
AreSwitches end switches s = switches ≡ s.sequence

-- the run over the trace, with the number of switches when it ended
pub record ReplayedWith (config : Configuration) (script : ScriptText) (trace : List TraceLine)
    (end : ServeEnd) (switches : ℕ) (old new : SinkState) : Type 0 where
  pub run : Replayed config script trace end old new
  pub are_switches : AreSwitches end switches run.last.state

-- how that run ended, and the number of switches, as a call returns both
abbrev pub ReturnsReplay : Configuration → ScriptText → List TraceLine → ServeEnd × ℕ → SinkState
    → SinkState → Type 0
ReturnsReplay config script trace returned old new =
    ReplayedWith config script trace returned.0 returned.1 old new
