-- What `serve` writes is the log of a run that keeps the headline.
use Rattle.std.specs.Prelude.{◌≡◌, ◌⊎◌, Bool, true, false, List, ◌∷◌, ◌++◌, Ok}
use Rattle.share_base.specs.Writing.{SinkState}
use Rattle.screen_config.specs.Configurations.{Configuration}
use Rattle.script_screen.specs.Scripts.{ScriptText}
use Rattle.hub_acts.specs.declared.act.Act.{Act}
use Rattle.hub_acts.specs.declared.act.Act.TheVariants as act
use Rattle.hub_acts.specs.Hubs.{HubState}
use Rattle.machine.specs.Logs.{log_text}
use Rattle.server_core.specs.Promises.{origin}
use Rattle.engine_loop.specs.declared.serve_end.ServeEnd.{ServeEnd}
use Rattle.engine_loop.specs.Stages.{known_with}
use Rattle.engine_loop.specs.Headline.{KeepsHeadline}
use Rattle.engine_loop.specs.Serving.{LogsTo}
use Rattle.headline.specs.Moments.{state_over}
use Rattle.share_commands.specs.declared.status.Status.{Status}
use Rattle.share_commands.specs.declared.status.Status.TheVariants as status
use Rattle.share_commands.specs.Checking.{HasConfig}
use Rattle.share_commands.specs.Texts.{HasScript}
use Rattle.share_commands.specs.Replaying.{status_of_run}
use Rattle.share_commands.specs.Serving.{ToServe}

-- the files spell a configuration and a script. The hub listened, and then these acts were made on
-- it, where it tells them; over these the headline holds; and the machine's log over them was
-- written, or a front of it where the sink failed or memory ran out
pub record SharesOnHub {H : Type 0} (state : H → HubState) (end : Status) (given : ToServe)
    (hub hub' : H) (old new : SinkState) : Type 0 where
  pub config : Configuration
  pub script : ScriptText
  pub run : List Act
  pub leaves : List Act
  pub ended : ServeEnd
  pub has_config : HasConfig given.config config
  pub has_script : HasScript config given.script script
  pub known : (state hub').acts
      ≡ known_with (act.Listen given.port (Ok tt) ∷ run ++ leaves) (state hub).acts
  pub keeps : KeepsHeadline (origin config script 0) ended run leaves
  pub log : LogsTo ended (log_text (state_over (origin config script 0) (run ++ leaves))) old new
  pub status_is : end ≡ status_of_run ended

-- the server ran
abbrev pub has_served : Status → Bool
has_served status.Ok = true
has_served status.TurnsSpent = true
has_served status.WriteFault = true
has_served _ = false

-- it ran so; or no such status is answered, and nothing was written
abbrev pub SharesIfServed : {H : Type 0} → (H → HubState) → Status → ToServe → H → H → SinkState
    → SinkState → Type 0
SharesIfServed state end given hub hub' old new =
    SharesOnHub state end given hub hub' old new ⊎ ((has_served end ≡ false) × (new ≡ old))
