-- What `serve` makes of the files with a configuration and a script, and of its hub.
use Rattle.std.specs.Prelude.{◌≡◌, ℕ, List, Option}
use Rattle.share_base.specs.Counts.{one_more}
use Rattle.share_base.specs.Writing.{SinkState}
use Rattle.screen_config.specs.Configurations.{Configuration}
use Rattle.script_screen.specs.Scripts.{ScriptText}
use Rattle.hub_acts.specs.Hubs.{HubState}
use Rattle.server_core.specs.Promises.{origin}
use Rattle.engine_loop.specs.declared.serve_end.ServeEnd.{ServeEnd}
use Rattle.hub_serving.specs.Serving.{ServesOn}
use Rattle.share_commands.specs.declared.status.Status.{Status}
use Rattle.share_commands.specs.Checking.{HasConfig, NoConfig}
use Rattle.share_commands.specs.Texts.{HasScript, NoScript}
use Rattle.share_commands.specs.Replaying.{status_of_run}

-- what each of the two files holds, where it is told; the port, and the number of turns
pub record ToServe : Type 0 where
  pub config : Option (List ℕ)
  pub script : Option (List ℕ)
  pub port : ℕ
  pub turns : ℕ

-- what the files of those names hold
abbrev pub to_serve : (List ℕ → Option (List ℕ)) → List ℕ → List ℕ → ℕ → ℕ → ToServe
to_serve told config script port turns =
    record { config = told config; script = told script; port = port; turns = turns }

-- each end with its cause: there is no configuration, or then no script, and nothing was written,
-- no further file read and the hub not called; or the server of the two ran on the port, from
-- moment 0, and ended so
pub data ServesFiles {H : Type 0} (state : H → HubState) (leads : H → H → Type 0) (end : Status)
    (given : ToServe) (calls calls' : ℕ) (hub hub' : H) (old new : SinkState) : Type 0
  where
    no_config : NoConfig end given.config → hub' ≡ hub → new ≡ old → calls' ≡ one_more calls
        → ServesFiles state leads end given calls calls' hub hub' old new
    no_script : (config : Configuration) → HasConfig given.config config
        → NoScript config end given.script → hub' ≡ hub → new ≡ old
        → calls' ≡ one_more (one_more calls)
        → ServesFiles state leads end given calls calls' hub hub' old new
    served : (config : Configuration) (script : ScriptText) (ended : ServeEnd)
        → HasConfig given.config config → HasScript config given.script script
        → ServesOn state leads (origin config script 0) given.port given.turns ended
        hub hub' old new
        → end ≡ status_of_run ended → calls' ≡ one_more (one_more calls)
        → ServesFiles state leads end given calls calls' hub hub' old new
