-- The tally of a whole run's log.
use Rattle.std.specs.Prelude.{◌≡◌, refl, ℕ, List, [], ◌++◌, Option, Some}
use Rattle.std.proofs.Common.{arith, ap, sym, subst, ◌∙◌, inl, inr}
use Rattle.share_base.specs.Told.{after}
use Rattle.share_base.specs.Counts.{Rises}
use Rattle.share_base.specs.Writing.{SinkState}
use Rattle.screen_config.specs.Configurations.{Configuration}
use Rattle.script_screen.specs.Scripts.{ScriptText}
use Rattle.script_screen.specs.declared.trace.TraceLine.{TraceLine}
use Rattle.machine.specs.Logs.{log_text}
use Rattle.log_tally.specs.Totals.{total_frames, total_taken, total_queued}
use Rattle.engine_loop.specs.declared.serve_end.ServeEnd.{ServeEnd}
use Rattle.engine_loop.specs.declared.serve_end.ServeEnd.TheVariants as ends
use Rattle.trace_replay.specs.Switches.{ReplayedWith, IsReplayEnd}
use Rattle.generated_run.specs.declared.summary.Summary.{Summary}
use Rattle.generated_run.specs.CountedRuns.{sink_with, IsWholeRun, ComesToSummary}

some_are : (xs ys : List ℕ) → (let o : Option (List ℕ) = Some xs in o) ≡ Some ys → xs ≡ ys
some_are xs ys e = cc

-- the run, where it is known how it ended
run_to : (config : Configuration) (script : ScriptText) (trace : List TraceLine) (end other : ServeEnd) (switches : ℕ) (old log : List ℕ) → old ≡ [] → end ≡ other
    → ReplayedWith config script trace end switches (sink_with old) (sink_with log) → ReplayedWith config script trace other switches (sink_with []) (sink_with log)
run_to config script trace end other switches old log none is r =
    subst (λ (xs : List ℕ). ReplayedWith config script trace other switches (sink_with xs) (sink_with log)) none
    (subst (λ (e : ServeEnd). ReplayedWith config script trace e switches (sink_with old) (sink_with log)) is r)

module _ (config : Configuration) (script : ScriptText) (trace : List TraceLine) (end : ServeEnd) (switches frames queued taken : ℕ) (old log : List ℕ) (none : old ≡ []) (frames_are : frames ≡ total_frames log) (queued_is : queued ≡ total_queued log) (taken_is : taken ≡ total_taken log) (ran : ReplayedWith config script trace end switches (sink_with old) (sink_with log)) where
  abbrev summary : Summary
  summary = record { switches = switches; frames = frames; queued = queued; taken = taken }

  pub comes-quit : end ≡ ends.Quit → ComesToSummary config script trace summary
  comes-quit e =
      let r = run_to config script trace end ends.Quit switches old log none e ran in
      let is : log ≡ log_text r.run.last.state = some_are log (log_text r.run.last.state) r.run.log.taken in
      record {
        end = ends.Quit;
        log = log;
        run = r.run;
        whole = inl refl;
        sums = record { switches = r.are_switches; frames = frames_are ∙ ap total_frames is; queued = queued_is ∙ ap total_queued is; taken = taken_is ∙ ap total_taken is };
      }

  pub comes-over : end ≡ ends.Over → ComesToSummary config script trace summary
  comes-over e =
      let r = run_to config script trace end ends.Over switches old log none e ran in
      let is : log ≡ log_text r.run.last.state = some_are log (log_text r.run.last.state) r.run.log.taken in
      record {
        end = ends.Over;
        log = log;
        run = r.run;
        whole = inr refl;
        sums = record { switches = r.are_switches; frames = frames_are ∙ ap total_frames is; queued = queued_is ∙ ap total_queued is; taken = taken_is ∙ ap total_taken is };
      }

  pub comes-whole : IsWholeRun end → ComesToSummary config script trace summary
  comes-whole (inl e) = comes-quit e
  comes-whole (inr e) = comes-over e

-- a tally never fails
pub no_write_fault : (config : Configuration) (script : ScriptText) (trace : List TraceLine) (end : ServeEnd) (switches : ℕ) (old new : List ℕ) → end ≡ ends.WriteFault
    → ReplayedWith config script trace end switches (sink_with old) (sink_with new) → ⊥
no_write_fault config script trace end switches old new e r =
    let failed = subst (λ (x : ServeEnd). ReplayedWith config script trace x switches (sink_with old) (sink_with new)) e r in
    let rises : Rises 0 0 = failed.run.log.2.faults in absurd (omega (arith, rises.1))

pub no_turns : (end : ServeEnd) → end ≡ ends.TurnsSpent → IsReplayEnd end → ⊥
no_turns end e h = subst IsReplayEnd e h

pub no_fault : (end : ServeEnd) → end ≡ ends.HubFault → IsReplayEnd end → ⊥
no_fault end e h = subst IsReplayEnd e h
