-- That `replay` has one output on files that are told.
use Rattle.std.specs.Prelude.{◌≡◌, List, ℕ, Option, Some, None}
use Rattle.share_base.specs.Writing.{SinkState}
use Rattle.screen_config.specs.Configurations.{Configuration}
use Rattle.config_text.specs.Accepting.{Accepts}
use Rattle.script_screen.specs.Scripts.{ScriptText}
use Rattle.script_screen.specs.Verdicts.{ScriptAccepts, TraceAccepts}
use Rattle.script_screen.specs.declared.trace.TraceLine.{TraceLine}
use Rattle.single_output.specs.OneOutput.{OneOutput, NeverQueuesFullChunk}
use Rattle.share_commands.specs.declared.status.Status.{Status}
use Rattle.share_commands.specs.declared.status.Status.TheVariants as status
use Rattle.share_commands.specs.Replaying.{Given}

-- the file is told, and this holds of its text
abbrev pub IsTold : Option (List ℕ) → (List ℕ → Type 0) → Type 0
IsTold None Holds = ⊥
IsTold (Some text) Holds = Holds text

-- the three files are told, and spell these
pub record Hold (given : Given) (config : Configuration) (script : ScriptText)
    (trace : List TraceLine) : Type 0 where
  pub config_is : IsTold given.config (λ text. Accepts text config)
  pub script_is : IsTold given.script (λ text. ScriptAccepts config text script)
  pub trace_is : IsTold given.trace (λ text. TraceAccepts text trace)

-- if it ended as ok, and no run over the trace in the told files queues a full chunk, what it wrote
-- is the one output of that trace
abbrev pub WritesOneOutput : Status → Given → SinkState → SinkState → Type 0
WritesOneOutput end given old new =
    end ≡ status.Ok
    → (config : Configuration) (script : ScriptText) (trace : List TraceLine)
    → Hold given config script trace → NeverQueuesFullChunk config script trace
    → OneOutput config script trace old new
