-- What `replay` makes of the files with a configuration, a script and a trace.
use Rattle.std.specs.Prelude.{◌≡◌, ℕ, List, Option}
use Rattle.share_base.specs.Counts.{one_more}
use Rattle.share_base.specs.Writing.{SinkState}
use Rattle.screen_config.specs.Configurations.{Configuration}
use Rattle.script_screen.specs.Scripts.{ScriptText}
use Rattle.script_screen.specs.declared.trace.TraceLine.{TraceLine}
use Rattle.engine_loop.specs.declared.serve_end.ServeEnd.{ServeEnd}
use Rattle.engine_loop.specs.declared.serve_end.ServeEnd.TheVariants as ends
use Rattle.trace_replay.specs.Replaying.{Replayed}
use Rattle.share_commands.specs.declared.status.Status.{Status}
use Rattle.share_commands.specs.declared.status.Status.TheVariants as status
use Rattle.share_commands.specs.Checking.{HasConfig, NoConfig}
use Rattle.share_commands.specs.Texts.{HasScript, NoScript, HasTrace, NoTrace}

-- how a command ends where its server does
abbrev pub status_of_run : ServeEnd → Status
status_of_run ends.Quit = status.Ok
status_of_run ends.Over = status.Ok
status_of_run ends.TurnsSpent = status.TurnsSpent
status_of_run ends.HubFault = status.HubFault
status_of_run ends.WriteFault = status.WriteFault
status_of_run ends.OutOfMemory = status.OutOfMemory

-- what each of the three files holds, where it is told, and how many files were read
pub record Given : Type 0 where
  pub config : Option (List ℕ)
  pub script : Option (List ℕ)
  pub trace : Option (List ℕ)

-- what the files of those names hold
abbrev pub given_by : (List ℕ → Option (List ℕ)) → List ℕ → List ℕ → List ℕ → Given
given_by told config script trace =
    record { config = told config; script = told script; trace = told trace }

-- each end with its cause: there is no configuration, or then no script, or then no trace, and
-- nothing was written and no further file read; or the server of the three ran over the trace and
-- ended so
pub data ReplaysFiles (end : Status) (given : Given) (calls calls' : ℕ) (old new : SinkState)
    : Type 0
  where
    no_config : NoConfig end given.config → new ≡ old → calls' ≡ one_more calls
        → ReplaysFiles end given calls calls' old new
    no_script : (config : Configuration) → HasConfig given.config config
        → NoScript config end given.script → new ≡ old → calls' ≡ one_more (one_more calls)
        → ReplaysFiles end given calls calls' old new
    no_trace : (config : Configuration) (script : ScriptText) → HasConfig given.config config
        → HasScript config given.script script → NoTrace end given.trace → new ≡ old
        → calls' ≡ one_more (one_more (one_more calls))
        → ReplaysFiles end given calls calls' old new
    ran : (config : Configuration) (script : ScriptText) (trace : List TraceLine) (ended : ServeEnd)
        → HasConfig given.config config → HasScript config given.script script
        → HasTrace given.trace trace → Replayed config script trace ended old new
        → end ≡ status_of_run ended → calls' ≡ one_more (one_more (one_more calls))
        → ReplaysFiles end given calls calls' old new

-- it ends as ok, at a text that is refused, or at a fault of the files or the output, or out of
-- memory: no wait fails, and the trace is over before the waits are used up
abbrev pub IsReplayStatus : Status → Type 0
IsReplayStatus status.Ok = Unit {0}
IsReplayStatus (status.BadConfig line column kind) = Unit {0}
IsReplayStatus (status.BadScript line kind) = Unit {0}
IsReplayStatus (status.BadTrace line kind) = Unit {0}
IsReplayStatus status.ReadFault = Unit {0}
IsReplayStatus status.WriteFault = Unit {0}
IsReplayStatus status.OutOfMemory = Unit {0}
IsReplayStatus _ = ⊥
