-- What it means that the texts of a number are accepted.
use Rattle.std.specs.Prelude.{ℕ, ◌≤◌, List, length}
use Rattle.screen_config.specs.Configurations.{Configuration}
use Rattle.config_text.specs.Accepting.{Accepts}
use Rattle.script_screen.specs.Scripts.{ScriptText}
use Rattle.script_screen.specs.Verdicts.{ScriptAccepts, TraceAccepts}
use Rattle.script_screen.specs.declared.trace.TraceLine.{TraceLine}
use Rattle.generated_texts.specs.Texts.{texts_of}

-- they spell a configuration, a script under it, and a trace
pub record TextsSpell (n : ℕ) (config : Configuration) (script : ScriptText)
    (trace : List TraceLine) : Type 0 where
  pub config_is : Accepts (texts_of n).config config
  pub script_is : ScriptAccepts config (texts_of n).script script
  pub trace_is : TraceAccepts (texts_of n).trace trace

-- none of them is refused
abbrev pub TextsAreAccepted : ℕ → Type 0
TextsAreAccepted n =
    (config : Configuration) × (script : ScriptText) × (trace : List TraceLine)
    × TextsSpell n config script trace

-- none of them has more bytes than a file of its kind may have
pub record TextsFitFiles (n : ℕ) : Type 0 where
  pub config : length (texts_of n).config ≤ 1048576
  pub script : length (texts_of n).script ≤ 16777216
  pub trace : length (texts_of n).trace ≤ 67108864
