-- A run over a hub keeps the headline.
use Rattle.std.specs.Prelude.{◌≡◌, refl, false, List, [], ◌∷◌, ◌++◌, Option, Some, None, Ok}
use Rattle.std.proofs.Common.{ap, sym, subst, ◌∙◌, inl, inr, append_assoc}
use Rattle.share_base.specs.Writing.{SinkState}
use Rattle.screen_config.specs.Configurations.{Configuration}
use Rattle.screen_config.specs.Sound.{IsSound}
use Rattle.script_screen.specs.Scripts.{ScriptText, IsScript}
use Rattle.hub_acts.specs.declared.act.Act.{Act}
use Rattle.hub_acts.specs.declared.act.Act.TheVariants as act
use Rattle.hub_acts.specs.declared.answers.CallFault.{CallFault}
use Rattle.hub_acts.specs.declared.answers.CallFault.TheVariants as fault
use Rattle.hub_acts.specs.Acts.{known_after}
use Rattle.hub_acts.specs.Hubs.{HubState}
use Rattle.machine.specs.States.{State}
use Rattle.machine.specs.Logs.{log_text}
use Rattle.reached_states.specs.Reaching.{Origin}
use Rattle.attentive_acts.specs.Judging.{Judge, judged, leaving}
use Rattle.server_core.specs.Promises.{origin}
use Rattle.server_core.proofs.Promised.{has-script-buttons}
use Rattle.engine_loop.specs.declared.serve_end.ServeEnd.{ServeEnd}
use Rattle.engine_loop.specs.Stages.{known_with}
use Rattle.engine_loop.specs.Serving.{LogsTo}
use Rattle.engine_loop.proofs.Headline.{keeps-headline}
use Rattle.headline.specs.Moments.{state_over}
use Rattle.headline.proofs.Moments.{state-left}
use Rattle.hub_serving.specs.Serving.{ServesOn, not_listening, listened, RunsServer, not_begun, ran, end_without}
use Rattle.share_commands.specs.declared.status.Status.{Status}
use Rattle.share_commands.specs.declared.status.Status.TheVariants as status
use Rattle.share_commands.specs.Checking.{HasConfig}
use Rattle.share_commands.specs.Texts.{HasScript}
use Rattle.share_commands.specs.Replaying.{status_of_run}
use Rattle.share_commands.specs.Serving.{ToServe}
use Rattle.share_commands.specs.Headline.{has_run}
use Rattle.share_commands.specs.ServingHeadline.{has_served, SharesIfServed}

pub not-served : (end : Status) → has_run end ≡ false → has_served end ≡ false
not-served status.Ok h = h
not-served status.TurnsSpent h = h
not-served status.WriteFault h = h
not-served end h = refl

unheard : (cause : CallFault) → has_served (status_of_run (end_without cause)) ≡ false
unheard fault.Failed = refl
unheard fault.OutOfMemory = refl

known_on : (a : Act) (acts : List Act) (known : Option (List Act)) → known_with acts (known_after (Some a) known) ≡ known_with (a ∷ acts) known
known_on a acts None = refl
known_on a acts (Some before) = ap (λ (xs : List Act). Some xs) (append_assoc before (a ∷ []) acts)

module _ {H : Type 0} (state : H → HubState) (leads : H → H → Type 0) (given : ToServe) (config : Configuration) (script : ScriptText) (ended : ServeEnd) (hub hub' : H) (old new : SinkState) (sound : IsSound config) (good : IsScript script) (has_config : HasConfig given.config config) (has_script : HasScript config given.script script) where
  abbrev o : Origin
  o = origin config script 0

  abbrev Shares : Type 0
  Shares = SharesIfServed state (status_of_run ended) given hub hub' old new

  over : (listening : H) → (state listening).acts ≡ known_after (Some (act.Listen given.port (Ok tt))) (state hub).acts → RunsServer state leads o given.turns ended listening hub' old new → Shares
  over listening known (not_begun is stays same) = inr (ap (λ (e : ServeEnd). has_served (status_of_run e)) is, same)
  over listening known (ran core s) =
      let last : state_over o (s.run ++ s.leaves) ≡ s.last.state = state-left o s.run s.leaves ∙ ap (λ (j : Judge). (judged (leaving j) s.leaves).state) s.judges ∙ ap (λ (j : Judge). j.state) s.left in
      inl (record {
        config = config;
        script = script;
        run = s.run;
        leaves = s.leaves;
        ended = ended;
        has_config = has_config;
        has_script = has_script;
        known = s.known ∙ ap (known_with (s.run ++ s.leaves)) known ∙ known_on (act.Listen given.port (Ok tt)) (s.run ++ s.leaves) (state hub).acts;
        keeps = keeps-headline o ended given.turns s.run s.leaves s.judge sound (has-script-buttons script good) s.answered s.attentive s.judges s.leave s.cause;
        log = subst (λ (t : State). LogsTo ended (log_text t) old new) (sym last) s.log;
        status_is = refl;
      })

  pub shares-served : ServesOn state leads o given.port given.turns ended hub hub' old new → Shares
  shares-served (not_listening cause is calls led same) = inr (ap (λ (e : ServeEnd). has_served (status_of_run e)) is ∙ unheard cause, same)
  shares-served (listened listening calls led h) = over listening calls.acts h
