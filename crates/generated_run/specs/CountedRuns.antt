-- What a run over a trace comes to.
use Rattle.std.specs.Prelude.{◌≡◌, ℕ, ◌⊎◌, List, [], Some, Result, Ok, Err}
use Rattle.share_base.specs.declared.out_of_memory.OutOfMemory.{OutOfMemory}
use Rattle.share_base.specs.Writing.{SinkState}
use Rattle.screen_config.specs.Configurations.{Configuration}
use Rattle.script_screen.specs.Scripts.{ScriptText}
use Rattle.script_screen.specs.declared.trace.TraceLine.{TraceLine}
use Rattle.machine.specs.States.{State}
use Rattle.machine.specs.Logs.{log_text}
use Rattle.log_tally.specs.Totals.{total_frames, total_taken, total_queued}
use Rattle.engine_loop.specs.declared.serve_end.ServeEnd.{ServeEnd}
use Rattle.engine_loop.specs.declared.serve_end.ServeEnd.TheVariants as ends
use Rattle.trace_replay.specs.Replaying.{Replayed}
use Rattle.generated_run.specs.declared.summary.Summary.{Summary}

-- what the machine's state says: the sequence number, and the totals of the log's lines
pub record IsSummaryOf (summary : Summary) (s : State) : Type 0 where
  pub switches : summary.switches ≡ s.sequence
  pub frames : summary.frames ≡ total_frames (log_text s)
  pub queued : summary.queued ≡ total_queued (log_text s)
  pub taken : summary.taken ≡ total_taken (log_text s)

-- a sink that has taken this and never failed
abbrev pub sink_with : List ℕ → SinkState
sink_with log = record { taken = Some log; faults = 0 }

-- the script has quit, or the trace was over
abbrev pub IsWholeRun : ServeEnd → Type 0
IsWholeRun end = (end ≡ ends.Quit) ⊎ (end ≡ ends.Over)

-- a whole run over that trace, which has this log, ends in a state of this summary
pub record ComesToSummary (config : Configuration) (script : ScriptText) (trace : List TraceLine)
    (summary : Summary) : Type 0 where
  pub end : ServeEnd
  pub log : List ℕ
  pub run : Replayed config script trace end (sink_with []) (sink_with log)
  pub whole : IsWholeRun end
  pub sums : IsSummaryOf summary run.last.state

abbrev pub CountsRun : Configuration → ScriptText → List TraceLine → Result Summary OutOfMemory
    → Type 0
CountsRun config script trace (Ok summary) = ComesToSummary config script trace summary
CountsRun config script trace (Err e) = Unit {0}
