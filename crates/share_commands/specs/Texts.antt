-- The scripts and traces that a command reads in the files of their names.
use Rattle.std.specs.Prelude.{ℕ, List, Option, Some, None, Result}
use Rattle.screen_config.specs.Configurations.{Configuration}
use Rattle.script_screen.specs.declared.kinds.TextKind.TheVariants as kind
use Rattle.script_screen.specs.declared.client_script.ClientLine.{ClientLine}
use Rattle.script_screen.specs.declared.trace.TraceLine.{TraceLine}
use Rattle.script_screen.specs.NumberedLines.{TextRefusal, refused_at}
use Rattle.script_screen.specs.Scripts.{ScriptText}
use Rattle.script_screen.specs.Verdicts.{ScriptAccepts, ScriptRefuses, TraceAccepts, TraceRefuses}
use Rattle.script_screen.specs.Verdicts.{ClientAccepts, ClientRefuses}
use Rattle.share_commands.specs.declared.status.Status.{Status}
use Rattle.share_commands.specs.declared.status.Status.TheVariants as status
use Rattle.share_commands.specs.Reading.{Kind, Has, Lacks, Gives}

abbrev pub script_limit : ℕ
script_limit = 16777216

abbrev pub trace_limit : ℕ
trace_limit = 67108864

-- the refusal of a file that is too big names no line
abbrev pub too_long : TextRefusal
too_long = refused_at 0 kind.TooLong

-- ---- scripts

-- the refusal of a script that a status says
abbrev pub script_refusal : Status → Option TextRefusal
script_refusal (status.BadScript line k) = Some (refused_at line k)
script_refusal _ = None

-- scripts whose screens are those of the configuration
abbrev pub scripts : Configuration → Kind ScriptText TextRefusal
scripts config =
    record {
      limit = script_limit;
      too_big = too_long;
      spells = ScriptAccepts config;
      refuses = ScriptRefuses config;
      said = script_refusal;
    }

abbrev pub HasScript : Configuration → Option (List ℕ) → ScriptText → Type 0
HasScript config = Has (scripts config)

abbrev pub NoScript : Configuration → Status → Option (List ℕ) → Type 0
NoScript config = Lacks (scripts config)

abbrev pub SpellsScript : Configuration → Result ScriptText Status → List ℕ → Type 0
SpellsScript config = Gives (scripts config)

-- ---- client scripts

abbrev pub client_scripts : Kind (List ClientLine) TextRefusal
client_scripts =
    record {
      limit = script_limit;
      too_big = too_long;
      spells = ClientAccepts;
      refuses = ClientRefuses;
      said = script_refusal;
    }

abbrev pub HasClientScript : Option (List ℕ) → List ClientLine → Type 0
HasClientScript = Has client_scripts

abbrev pub NoClientScript : Status → Option (List ℕ) → Type 0
NoClientScript = Lacks client_scripts

-- ---- traces

-- the refusal of a trace that a status says
abbrev pub trace_refusal : Status → Option TextRefusal
trace_refusal (status.BadTrace line k) = Some (refused_at line k)
trace_refusal _ = None

abbrev pub traces : Kind (List TraceLine) TextRefusal
traces =
    record {
      limit = trace_limit;
      too_big = too_long;
      spells = TraceAccepts;
      refuses = TraceRefuses;
      said = trace_refusal;
    }

abbrev pub HasTrace : Option (List ℕ) → List TraceLine → Type 0
HasTrace = Has traces

abbrev pub NoTrace : Status → Option (List ℕ) → Type 0
NoTrace = Lacks traces

abbrev pub SpellsTrace : Result (List TraceLine) Status → List ℕ → Type 0
SpellsTrace = Gives traces
