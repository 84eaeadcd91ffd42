-- A run over a trace keeps the headline.
use Rattle.std.specs.Prelude.{◌≡◌, refl, ℕ, Bool, true, false, ◌==◌, min, List, [], ◌∷◌, ◌++◌, length, if◌then◌else◌, Option, Some, None}
use Rattle.std.specs.List.{list_all}
use Rattle.std.proofs.Common.{ap, sym, subst, ◌∙◌}
use Rattle.std.proofs.lemmas.Bool.{and_parts, and_from}
use Rattle.std.proofs.lemmas.List.Folds.{list_all-append}
use Rattle.share_base.specs.Writing.{SinkState}
use Rattle.screen_config.specs.Configurations.{Configuration}
use Rattle.screen_config.specs.Sound.{IsSound}
use Rattle.script_screen.specs.Scripts.{ScriptText, IsScript}
use Rattle.script_screen.specs.declared.trace.TraceLine.{TraceLine}
use Rattle.hub_acts.specs.declared.act.Act.{Act}
use Rattle.hub_acts.specs.declared.act.Act.TheVariants as act
use Rattle.hub_acts.specs.declared.answers.WriteAnswer.TheVariants as written
use Rattle.hub_mem.specs.Answers.{Played, is_to_fail, stream_of, room_answer, write_given}
use Rattle.hub_mem.specs.Playing.{given_by, with_act, AreGiven}
use Rattle.machine.specs.States.{State}
use Rattle.machine.specs.Logs.{log_text}
use Rattle.reached_states.specs.Reaching.{Origin}
use Rattle.attentive_acts.specs.Judging.{Judge, judged, leaving}
use Rattle.attentive_acts.specs.Offered.{is_answered}
use Rattle.server_core.proofs.Promised.{has-script-buttons}
use Rattle.engine_loop.specs.declared.serve_end.ServeEnd.{ServeEnd}
use Rattle.engine_loop.specs.Serving.{LogsTo}
use Rattle.engine_loop.specs.Headline.{KeepsHeadline}
use Rattle.engine_loop.proofs.Headline.{keeps-headline}
use Rattle.trace_replay.specs.Replaying.{Replayed, origin_of, played, turns_of}
use Rattle.headline.specs.Moments.{state_over}
use Rattle.headline.proofs.Moments.{state-left}
use Rattle.share_commands.specs.declared.status.Status.{Status}
use Rattle.share_commands.specs.declared.status.Status.TheVariants as status
use Rattle.share_commands.specs.Checking.{HasConfig, NoConfig}
use Rattle.share_commands.specs.Texts.{HasScript, NoScript, HasTrace, NoTrace}
use Rattle.share_commands.specs.Replaying.{Given, status_of_run}
use Rattle.share_commands.specs.Headline.{SharesOver, has_run}

-- ---- what a trace answers

by_room : (serial : ℕ) (bytes : List ℕ) (room : Option ℕ) → is_answered (act.Write serial bytes (room_answer (length bytes) room)) ≡ true
by_room serial bytes None = refl
by_room serial bytes (Some room) = at (room == 0)
  where
    at : (b : Bool) → is_answered (act.Write serial bytes (if b then written.NotNow else written.Took (min room (length bytes)))) ≡ true
    at true = refl
    at false = refl

write_answered : (p : Played) (serial : ℕ) (bytes : List ℕ) → is_answered (act.Write serial bytes (write_given p serial (length bytes))) ≡ true
write_answered p serial bytes = at (is_to_fail p) (stream_of p serial).has_failed
  where
    at : (fails failed : Bool) → is_answered (act.Write serial bytes (if fails then written.Failed else if failed then written.Failed else room_answer (length bytes) (stream_of p serial).room)) ≡ true
    at true failed = refl
    at false true = refl
    at false false = by_room serial bytes (stream_of p serial).room

act_answered : (p : Played) (a : Act) → a ≡ given_by p a → is_answered a ≡ true
act_answered p (act.Write serial bytes answer) e = ap is_answered e ∙ write_answered p serial bytes
act_answered p a e = refl

acts_answered : (p : Played) (acts : List Act) → AreGiven p acts → list_all is_answered acts ≡ true
acts_answered p [] g = refl
acts_answered p (a ∷ acts) g = and_from (is_answered a) (list_all is_answered acts) (act_answered p a g.0) (acts_answered (with_act a p) acts g.1)

-- ---- the run

keeps : (config : Configuration) (script : ScriptText) (trace : List TraceLine) (ended : ServeEnd) (old new : SinkState) → IsSound config → IsScript script → (r : Replayed config script trace ended old new) → KeepsHeadline (origin_of config script) ended r.run r.leaves
keeps config script trace ended old new sound good r =
    let all = sym (list_all-append is_answered r.run r.leaves) ∙ acts_answered (played trace) (r.run ++ r.leaves) r.given in
    keeps-headline (origin_of config script) ended (turns_of trace) r.run r.leaves r.judge sound (has-script-buttons script good) (and_parts (list_all is_answered r.run) (list_all is_answered r.leaves) all).0 r.attentive r.judges r.leave r.cause

pub shares-over : (given : Given) (config : Configuration) (script : ScriptText) (trace : List TraceLine) (ended : ServeEnd) (old new : SinkState)
    → IsSound config → IsScript script → HasConfig given.config config → HasScript config given.script script → HasTrace given.trace trace
    → Replayed config script trace ended old new → SharesOver (status_of_run ended) given old new
shares-over given config script trace ended old new sound good has_config has_script has_trace r =
    let o : Origin = origin_of config script in
    let last : state_over o (r.run ++ r.leaves) ≡ r.last.state = state-left o r.run r.leaves ∙ ap (λ (j : Judge). (judged (leaving j) r.leaves).state) r.judges ∙ ap (λ (j : Judge). j.state) r.left in
    record {
      config = config;
      script = script;
      trace = trace;
      run = r.run;
      leaves = r.leaves;
      ended = ended;
      has_config = has_config;
      has_script = has_script;
      has_trace = has_trace;
      answered = r.given;
      keeps = keeps config script trace ended old new sound good r;
      log = subst (λ (s : State). LogsTo ended (log_text s) old new) (sym last) r.log;
      status_is = refl;
    }

-- ---- where no server ran

pub no-config-run : (end : Status) (told : Option (List ℕ)) → NoConfig end told → has_run end ≡ false
no-config-run (status.BadConfig line column kind) told h = refl
no-config-run status.ReadFault told h = refl
no-config-run status.OutOfMemory told h = refl
no-config-run end told h = absurd h

pub no-script-run : (config : Configuration) (end : Status) (told : Option (List ℕ)) → NoScript config end told → has_run end ≡ false
no-script-run config (status.BadScript line kind) told h = refl
no-script-run config status.ReadFault told h = refl
no-script-run config status.OutOfMemory told h = refl
no-script-run config end told h = absurd h

pub no-trace-run : (end : Status) (told : Option (List ℕ)) → NoTrace end told → has_run end ≡ false
no-trace-run (status.BadTrace line kind) told h = refl
no-trace-run status.ReadFault told h = refl
no-trace-run status.OutOfMemory told h = refl
no-trace-run end told h = absurd h
