-- Replays of the same files that end well write the same.
use Rattle.std.specs.Prelude.{◌≡◌, ℕ, List, [], ◌++◌}
use Rattle.std.proofs.Common.{ap, sym, subst, ◌∙◌}
use Rattle.share_base.specs.Told.{after}
use Rattle.share_base.specs.Writing.{SinkState}
use Rattle.screen_config.specs.Configurations.{Configuration}
use Rattle.script_screen.specs.Scripts.{ScriptText}
use Rattle.script_screen.specs.declared.trace.TraceLine.{TraceLine}
use Rattle.hub_acts.specs.declared.act.Act.{Act}
use Rattle.machine.specs.Logs.{log_text}
use Rattle.attentive_acts.specs.Places.{Leaves}
use Rattle.attentive_acts.specs.Judging.{Judge, Follows, judged, leaving}
use Rattle.engine_loop.specs.declared.serve_end.ServeEnd.{ServeEnd}
use Rattle.engine_loop.specs.declared.serve_end.ServeEnd.TheVariants as ends
use Rattle.engine_loop.specs.Serving.{IsWhole, LogsTo}
use Rattle.trace_replay.specs.Replaying.{Replayed, first_of, played, turns_of}
use Rattle.single_output.specs.OneOutput.{EndsWell, QueuesNoFullChunk, WriteAlike, QueueAlike}
use Rattle.single_output.proofs.DueActs.{same-acts}
use Rattle.single_output.proofs.WholeRuns.{leaves-all, leaving-is, follows-both, judged-both}

all_left : (end : ServeEnd) (last : Judge) → EndsWell end → IsWhole end last → last.place ≡ Leaves []
all_left ends.Quit last w h = h
all_left ends.Over last w h = h
all_left end last w h = absurd w

log_written : (end : ServeEnd) (log : List ℕ) (old new : SinkState) → EndsWell end → LogsTo end log old new → new.taken ≡ after old.taken log
log_written ends.Quit log old new w h = h.taken
log_written ends.Over log old new w h = h.taken
log_written end log old new w h = absurd w

-- the acts of a run and of its closings, as one list
record Whole (first last : Judge) (acts : List Act) : Type 0 where
  follows : Follows first acts
  judges : judged first acts ≡ last

whole_of : (config : Configuration) (script : ScriptText) (trace : List TraceLine) (end : ServeEnd) (old new : SinkState) → EndsWell end → (r : Replayed config script trace end old new) → Whole (first_of config script) r.last (r.run ++ r.leaves)
whole_of config script trace end old new w r =
    let first : Judge = first_of config script in
    let same : leaving r.judge ≡ judged first r.run = leaving-is r.judge (leaves-all end (turns_of trace) first r.run r.judge w r.attentive r.judges r.cause) ∙ sym r.judges in
    record {
      follows = follows-both first r.run r.leaves r.attentive (subst (λ (j : Judge). Follows j r.leaves) same r.leave);
      judges = judged-both first r.run r.leaves ∙ ap (λ (j : Judge). judged j r.leaves) (sym same) ∙ r.left;
    }

same_run : (config : Configuration) (script : ScriptText) (trace : List TraceLine) (one other : ServeEnd) (old new old' new' : SinkState)
    → EndsWell one → EndsWell other → (r : Replayed config script trace one old new)
    → QueuesNoFullChunk (first_of config script) (r.run ++ r.leaves)
    → (r' : Replayed config script trace other old' new') → r.run ++ r.leaves ≡ r'.run ++ r'.leaves
same_run config script trace one other old new old' new' w w' r n r' =
    let first : Judge = first_of config script in
    let a : Whole first r.last (r.run ++ r.leaves) = whole_of config script trace one old new w r in
    let b : Whole first r'.last (r'.run ++ r'.leaves) = whole_of config script trace other old' new' w' r' in
    same-acts (played trace) first (r.run ++ r.leaves) (r'.run ++ r'.leaves) a.follows r.given b.follows r'.given n
    (ap (λ (j : Judge). j.place) a.judges ∙ all_left one r.last w r.whole)
    (ap (λ (j : Judge). j.place) b.judges ∙ all_left other r'.last w' r'.whole)

same_log : (config : Configuration) (script : ScriptText) (trace : List TraceLine) (one other : ServeEnd) (old new old' new' : SinkState)
    → EndsWell one → EndsWell other → (r : Replayed config script trace one old new)
    → QueuesNoFullChunk (first_of config script) (r.run ++ r.leaves)
    → Replayed config script trace other old' new' → new'.taken ≡ after old'.taken (log_text r.last.state)
same_log config script trace one other old new old' new' w w' r n r' =
    let first : Judge = first_of config script in
    let a : Whole first r.last (r.run ++ r.leaves) = whole_of config script trace one old new w r in
    let b : Whole first r'.last (r'.run ++ r'.leaves) = whole_of config script trace other old' new' w' r' in
    let acts : r.run ++ r.leaves ≡ r'.run ++ r'.leaves = same_run config script trace one other old new old' new' w w' r n r' in
    let last : r'.last ≡ r.last = sym b.judges ∙ ap (judged first) (sym acts) ∙ a.judges in
    log_written other (log_text r'.last.state) old' new' w' r'.log
    ∙ ap (λ (j : Judge). after old'.taken (log_text j.state)) last

pub write-alike : WriteAlike
write-alike config script trace one old new w r n = record {
  output = log_text r.last.state;
  written = log_written one (log_text r.last.state) old new w r.log;
  alone = λ other old' new' w' r'. same_log config script trace one other old new old' new' w w' r n r';
}

pub queue-alike : QueueAlike
queue-alike config script trace one old new w r n other old' new' w' r' =
    subst (QueuesNoFullChunk (first_of config script)) (same_run config script trace one other old new old' new' w w' r n r') n
