-- A replay of files that are told has one output, and how a replay may end.
use Rattle.std.proofs.Common.{◌≡◌, ℕ, List, [], Option, Some, None, sym, subst}
use Rattle.share_base.specs.Writing.{SinkState}
use Rattle.screen_config.specs.Configurations.{Configuration}
use Rattle.config_text.specs.Accepting.{Accepts}
use Rattle.script_screen.specs.NumberedLines.{text_judged}
use Rattle.script_screen.specs.Scripts.{ScriptText}
use Rattle.script_screen.specs.Texts.{script_reading, trace_judged}
use Rattle.script_screen.specs.Verdicts.{ScriptAccepts, TraceAccepts}
use Rattle.script_screen.specs.declared.trace.TraceLine.{TraceLine}
use Rattle.script_screen.proofs.Readings.{is_script_reading, is_trace_reading, one_verdict}
use Rattle.engine_loop.specs.declared.serve_end.ServeEnd.{ServeEnd}
use Rattle.engine_loop.specs.declared.serve_end.ServeEnd.TheVariants as ends
use Rattle.trace_replay.specs.Replaying.{Replayed}
use Rattle.trace_replay.specs.Switches.{IsReplayEnd}
use Rattle.single_output.specs.OneOutput.{EndsWell}
use Rattle.single_output.proofs.OneOutput.{write-alike}
use Rattle.share_commands.specs.declared.status.Status.{Status}
use Rattle.share_commands.specs.declared.status.Status.TheVariants as status
use Rattle.share_commands.specs.Reading.{HasText}
use Rattle.share_commands.specs.Checking.{HasConfig, NoConfig}
use Rattle.share_commands.specs.Texts.{HasScript, NoScript, HasTrace, NoTrace}
use Rattle.share_commands.specs.Replaying.{Given, IsReplayStatus, status_of_run}
use Rattle.share_commands.specs.OneOutput.{IsTold, WritesOneOutput}
use Rattle.share_commands.proofs.Checked.{same_config}

-- ---- a told text spells one thing

record Both (P Q : List ℕ → Type 0) : Type 0 where
  text : List ℕ
  one : P text
  other : Q text

both : (limit : ℕ) (told : Option (List ℕ)) (P Q : List ℕ → Type 0) → HasText limit told P → IsTold told Q → Both P Q
both limit None P Q h is = absurd is
both limit (Some text) P Q h is = record { text = text; one = subst P h.is_file h.holds; other = is }

same_script : (config : Configuration) (text : List ℕ) (one other : ScriptText) → ScriptAccepts config text one → ScriptAccepts config text other → one ≡ other
same_script config text = (one_verdict (script_reading config text) (is_script_reading config text)).one_value

same_trace : (text : List ℕ) (one other : List TraceLine) → TraceAccepts text one → TraceAccepts text other → one ≡ other
same_trace text = (one_verdict (text_judged trace_judged [] text) (is_trace_reading text)).one_value

-- ---- the one output

ends_well : (ended : ServeEnd) → status.Ok ≡ status_of_run ended → EndsWell ended
ends_well ends.Quit is = tt
ends_well ends.Over is = tt
ends_well end is = absurd cc

-- no server ran
pub no-output : (end : Status) (given : Given) (old new : SinkState) → (end ≡ status.Ok → ⊥) → WritesOneOutput end given old new
no-output end given old new other ok config script trace hold never = absurd (other ok)

-- the server ran
pub one-output : (end : Status) (given : Given) (c : Configuration) (s : ScriptText) (t : List TraceLine) (ended : ServeEnd) (old new : SinkState)
    → HasConfig given.config c → HasScript c given.script s → HasTrace given.trace t
    → Replayed c s t ended old new → end ≡ status_of_run ended → WritesOneOutput end given old new
one-output end given c s t ended old new has_config has_script has_trace r is ok config script trace hold never =
    let configs = both _ given.config (λ text. Accepts text c) (λ text. Accepts text config) has_config hold.config_is in
    let one : c ≡ config = same_config configs.text c config configs.one configs.other in
    let scripts = both _ given.script (λ text. ScriptAccepts c text s) (λ text. ScriptAccepts config text script) has_script hold.script_is in
    let two : s ≡ script = same_script config scripts.text s script (subst (λ (x : Configuration). ScriptAccepts x scripts.text s) one scripts.one) scripts.other in
    let traces = both _ given.trace (λ text. TraceAccepts text t) (λ text. TraceAccepts text trace) has_trace hold.trace_is in
    let three : t ≡ trace = same_trace traces.text t trace traces.one traces.other in
    let run : Replayed config script trace ended old new =
    subst (λ (x : List TraceLine). Replayed config script x ended old new) three
    (subst (λ (x : ScriptText). Replayed config x t ended old new) two
    (subst (λ (x : Configuration). Replayed x s t ended old new) one r)) in
    let well : EndsWell ended = ends_well ended (subst (λ (x : Status). x ≡ status_of_run ended) ok is) in
    write-alike config script trace ended old new well run (never ended old new well run)

-- ---- the ends

pub config_ends : (end : Status) (told : Option (List ℕ)) → NoConfig end told → IsReplayStatus end
config_ends (status.BadConfig line column kind) told h = tt
config_ends status.ReadFault told h = tt
config_ends status.OutOfMemory told h = tt
config_ends end told h = absurd h

pub script_ends : (config : Configuration) (end : Status) (told : Option (List ℕ)) → NoScript config end told → IsReplayStatus end
script_ends config (status.BadScript line kind) told h = tt
script_ends config status.ReadFault told h = tt
script_ends config status.OutOfMemory told h = tt
script_ends config end told h = absurd h

pub trace_ends : (end : Status) (told : Option (List ℕ)) → NoTrace end told → IsReplayStatus end
trace_ends (status.BadTrace line kind) told h = tt
trace_ends status.ReadFault told h = tt
trace_ends status.OutOfMemory told h = tt
trace_ends end told h = absurd h

ended_so : (ended : ServeEnd) → IsReplayEnd ended → IsReplayStatus (status_of_run ended)
ended_so ends.TurnsSpent h = absurd h
ended_so ends.HubFault h = absurd h
ended_so ends.Quit h = tt
ended_so ends.Over h = tt
ended_so ends.WriteFault h = tt
ended_so ends.OutOfMemory h = tt

pub run_ends : (ended : ServeEnd) (end : Status) → end ≡ status_of_run ended → IsReplayEnd ended → IsReplayStatus end
run_ends ended end is h = subst IsReplayStatus (sym is) (ended_so ended h)
