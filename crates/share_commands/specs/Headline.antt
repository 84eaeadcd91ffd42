-- What `replay` writes is the log of a run that keeps the headline.
use Rattle.std.specs.Prelude.{◌≡◌, ◌⊎◌, Bool, true, false, List, ◌++◌}
use Rattle.share_base.specs.Writing.{SinkState}
use Rattle.screen_config.specs.Configurations.{Configuration}
use Rattle.script_screen.specs.Scripts.{ScriptText}
use Rattle.script_screen.specs.declared.trace.TraceLine.{TraceLine}
use Rattle.hub_acts.specs.declared.act.Act.{Act}
use Rattle.hub_mem.specs.Playing.{AreGiven}
use Rattle.machine.specs.Logs.{log_text}
use Rattle.engine_loop.specs.declared.serve_end.ServeEnd.{ServeEnd}
use Rattle.engine_loop.specs.Headline.{KeepsHeadline}
use Rattle.engine_loop.specs.Serving.{LogsTo}
use Rattle.trace_replay.specs.Replaying.{origin_of, played}
use Rattle.headline.specs.Moments.{state_over}
use Rattle.share_commands.specs.declared.status.Status.{Status}
use Rattle.share_commands.specs.declared.status.Status.TheVariants as status
use Rattle.share_commands.specs.Checking.{HasConfig}
use Rattle.share_commands.specs.Texts.{HasScript, HasTrace}
use Rattle.share_commands.specs.Replaying.{Given, status_of_run}

-- the files spell a configuration, a script and a trace. Acts were due, and the trace answered each
-- of them; over these acts the headline holds; and the machine's log over them was written, or a
-- front of it where the sink failed or memory ran out
pub record SharesOver (end : Status) (given : Given) (old new : SinkState) : Type 0 where
  pub config : Configuration
  pub script : ScriptText
  pub trace : List TraceLine
  pub run : List Act
  pub leaves : List Act
  pub ended : ServeEnd
  pub has_config : HasConfig given.config config
  pub has_script : HasScript config given.script script
  pub has_trace : HasTrace given.trace trace
  pub answered : AreGiven (played trace) (run ++ leaves)
  pub keeps : KeepsHeadline (origin_of config script) ended run leaves
  pub log : LogsTo ended (log_text (state_over (origin_of config script) (run ++ leaves))) old new
  pub status_is : end ≡ status_of_run ended

-- the server ran
abbrev pub has_run : Status → Bool
has_run status.Ok = true
has_run status.TurnsSpent = true
has_run status.HubFault = true
has_run status.WriteFault = true
has_run _ = false

-- it ran so; or no such status is answered, and nothing was written
abbrev pub SharesIfRun : Status → Given → SinkState → SinkState → Type 0
SharesIfRun end given old new =
    SharesOver end given old new ⊎ ((has_run end ≡ false) × (new ≡ old))
