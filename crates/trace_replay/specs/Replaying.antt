-- A run of the server over a trace: the acts that are due and that the trace answers, and the log
-- over them.
use Rattle.std.specs.Prelude.{◌≡◌, ℕ, ◌+◌, Bool, true, false, List, [], ◌++◌, count_by}
use Rattle.share_base.specs.Writing.{SinkState}
use Rattle.screen_config.specs.Configurations.{Configuration}
use Rattle.script_screen.specs.Scripts.{ScriptText}
use Rattle.script_screen.specs.declared.trace.TraceLine.{TraceLine}
use Rattle.script_screen.specs.declared.trace.TraceLine.TheVariants as line
use Rattle.hub_acts.specs.declared.act.Act.{Act}
use Rattle.hub_mem.specs.Answers.{Played}
use Rattle.hub_mem.specs.Playing.{AreGiven}
use Rattle.machine.specs.Logs.{log_text}
use Rattle.reached_states.specs.Reaching.{Origin, start_of}
use Rattle.attentive_acts.specs.Judging.{Judge, Follows, judged, first_judge, leaving}
use Rattle.server_core.specs.Scripts.{script_of}
use Rattle.engine_loop.specs.declared.serve_end.ServeEnd.{ServeEnd}
use Rattle.engine_loop.specs.Ends.{EndsBy}
use Rattle.engine_loop.specs.Serving.{IsWhole, LogsTo}

-- a server of that configuration and script, at moment 0
abbrev pub origin_of : Configuration → ScriptText → Origin
origin_of config script = record { config = config; script = script_of script; now = 0 }

abbrev pub first_of : Configuration → ScriptText → Judge
first_of config script = first_judge (start_of (origin_of config script))

-- that trace, of which no call fails besides, before the first call
abbrev pub played : List TraceLine → Played
played trace = record { lines = trace; failing = []; acts = [] }

abbrev pub is_turn : TraceLine → Bool
is_turn (line.Turn moment) = true
is_turn l = false

-- one wait more than the trace has turns
abbrev pub turns_of : List TraceLine → ℕ
turns_of trace = count_by is_turn trace + 1

-- the acts of the turns and then those of the closings were due, the trace answered each of them,
-- and the sink got the log over them; where the sink failed or memory ran out, a front of it
pub record Replayed (config : Configuration) (script : ScriptText) (trace : List TraceLine)
    (end : ServeEnd) (old new : SinkState) : Type 0 where
  pub run : List Act
  pub leaves : List Act
  pub judge : Judge
  pub last : Judge
  pub given : AreGiven (played trace) (run ++ leaves)
  pub attentive : Follows (first_of config script) run
  pub judges : judged (first_of config script) run ≡ judge
  pub leave : Follows (leaving judge) leaves
  pub left : judged (leaving judge) leaves ≡ last
  pub whole : IsWhole end last
  pub cause : EndsBy end (turns_of trace) run judge
  pub log : LogsTo end (log_text last.state) old new
