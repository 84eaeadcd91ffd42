-- The headline holds over the acts of a run.
use Rattle.std.specs.Prelude.{◌≡◌, ℕ, true, List}
use Rattle.std.specs.List.{list_all}
use Rattle.std.proofs.Common.{ap, sym, subst, ◌∙◌}
use Rattle.screen_config.specs.Sound.{IsSound}
use Rattle.hub_acts.specs.declared.act.Act.{Act}
use Rattle.machine.specs.Held.{HasScriptButtons}
use Rattle.machine.specs.States.{State}
use Rattle.machine.specs.Readings.{is_over}
use Rattle.reached_states.specs.Reaching.{Origin, start_of}
use Rattle.attentive_acts.specs.Judging.{Judge, Follows, judged, first_judge, leaving}
use Rattle.attentive_acts.specs.Offered.{is_answered}
use Rattle.headline.specs.Taking.{EndsByQuit}
use Rattle.headline.specs.Sharing.{AreAttended}
use Rattle.headline.proofs.Moments.{state-over}
use Rattle.headline.proofs.Sharing.{shared-by-attention}
use Rattle.engine_loop.specs.declared.serve_end.ServeEnd.{ServeEnd}
use Rattle.engine_loop.specs.declared.serve_end.ServeEnd.TheVariants as ends
use Rattle.engine_loop.specs.Ends.{EndsBy}
use Rattle.engine_loop.specs.Headline.{KeepsHeadline}

ends_by_quit : (o : Origin) (turns : ℕ) (run : List Act) (judge : Judge) → judged (first_judge (start_of o)) run ≡ judge → EndsBy ends.Quit turns run judge → EndsByQuit o run
ends_by_quit o turns run judge is h = record {
  ready = h.2;
  over = ap (λ (s : State). is_over s) (state-over o run ∙ ap (λ (j : Judge). j.state) is) ∙ h.0;
}

pub keeps-headline : (o : Origin) (end : ServeEnd) (turns : ℕ) (run leaves : List Act) (judge : Judge)
    → IsSound o.config → HasScriptButtons o.script → list_all is_answered run ≡ true → Follows (first_judge (start_of o)) run → judged (first_judge (start_of o)) run ≡ judge → Follows (leaving judge) leaves → EndsBy end turns run judge
    → KeepsHeadline o end run leaves
keeps-headline o end turns run leaves judge sound buttons answered attentive judges leave cause =
    let due : AreAttended o run leaves = record {
      answered = answered;
      attentive = attentive;
      leave = subst (λ (j : Judge). Follows (leaving j) leaves) (sym judges) leave;
    } in
    record {
      due = due;
      shared = shared-by-attention o run leaves sound buttons due;
      quit = λ e. ends_by_quit o turns run judge judges (subst (λ (x : ServeEnd). EndsBy x turns run judge) e cause);
    }
