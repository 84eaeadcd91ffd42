-- What `generate` makes of a number.
use Rattle.std.specs.Prelude.{◌≡◌, ℕ, List, Result, Ok, Err}
use Rattle.share_base.specs.Told.{after}
use Rattle.share_base.specs.Writing.{SinkState, TakesFront}
use Rattle.screen_config.specs.Configurations.{Configuration}
use Rattle.script_screen.specs.Scripts.{ScriptText}
use Rattle.script_screen.specs.declared.trace.TraceLine.{TraceLine}
use Rattle.made_accepted.specs.Accepted.{TextsSpell}
use Rattle.generated_run.specs.declared.summary.Summary.{Summary}
use Rattle.generated_run.specs.Summaries.{summary_text}
use Rattle.generated_run.specs.CountedRuns.{ComesToSummary}
use Rattle.share_commands.specs.declared.status.Status.{Status}
use Rattle.share_commands.specs.declared.status.Status.TheVariants as status

-- a whole run of what they spell comes to the summary
pub record IsSummary (n : ℕ) (summary : Summary) : Type 0 where
  pub config : Configuration
  pub script : ScriptText
  pub trace : List TraceLine
  pub spell : TextsSpell n config script trace
  pub comes : ComesToSummary config script trace summary

-- ---- ends

-- why there is none: memory ran out
abbrev pub NoSummary : Status → Type 0
NoSummary status.OutOfMemory = Unit {0}
NoSummary _ = ⊥

-- the summary, or how the command ends without one
abbrev pub GivesSummary : Result Summary Status → ℕ → Type 0
GivesSummary (Ok summary) n = IsSummary n summary
GivesSummary (Err end) n = NoSummary end

-- all was written, or a write failed, or memory ran out
abbrev pub IsGoodEnd : Status → Type 0
IsGoodEnd status.Ok = Unit {0}
IsGoodEnd status.WriteFault = Unit {0}
IsGoodEnd status.OutOfMemory = Unit {0}
IsGoodEnd _ = ⊥

-- the text was written, or a front of it where the sink failed
abbrev pub PrintsSummary : Status → List ℕ → SinkState → SinkState → Type 0
PrintsSummary status.Ok text old new = new.taken ≡ after old.taken text
PrintsSummary status.WriteFault text old new = TakesFront text old.taken new.taken
PrintsSummary _ text old new = ⊥

-- each end of `generate` with its cause and with what was written
abbrev pub GeneratesFrom : Status → ℕ → SinkState → SinkState → Type 0
GeneratesFrom status.Ok n old new =
    (summary : Summary) × IsSummary n summary
    × PrintsSummary status.Ok (summary_text summary) old new
GeneratesFrom status.WriteFault n old new =
    (summary : Summary) × IsSummary n summary
    × PrintsSummary status.WriteFault (summary_text summary) old new
GeneratesFrom end n old new = NoSummary end × (new ≡ old)
