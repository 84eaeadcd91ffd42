use Rattle.std.specs.Prelude.{ℕ, List, Option}
use Rattle.std.proofs.Common.{refl, ap, sym, subst, ◌∙◌, inl, inr}
use Rattle.share_base.specs.Counts.{one_more}
use Rattle.share_commands.specs.Checking.{NoConfig}
use Rattle.share_commands.specs.Texts.{HasScript, NoScript, HasTrace, NoTrace}
use Rattle.share_commands.specs.declared.status.Status.{Status}
use Rattle.share_commands.specs.Replaying.{Given, given_by, no_script, no_trace, ran}
use Rattle.share_commands.specs.Headline.{SharesOver}
use Rattle.share_commands.proofs.Headline.{shares-over, no-config-run, no-script-run, no-trace-run}
use Rattle.share_commands.proofs.OneOutput.{one-output, no-output, config_ends, script_ends, trace_ends, run_ends}
use Rattle.share_commands.proofs.replaying.run_replay.Goals as goal

pub returns-in-Err-read_script-clause-replays : goal.returns-in-Err-read_script-clause-replays
returns-in-Err-read_script-clause-replays g c =
    no_script c.in-Ok.config c.in-Ok.ensures.reads
    (subst (λ (told : Option (List ℕ)). NoScript c.in-Ok.config c.in-Err-read_script.end told) (c.read_config.ensures.once.kept c.args.script.now) c.in-Err-read_script.ensures.reads.reads)
    refl (c.read_script.ensures.reads.once.one ∙ ap one_more c.read_config.ensures.once.one)

pub returns-in-Err-read_trace-clause-replays : goal.returns-in-Err-read_trace-clause-replays
returns-in-Err-read_trace-clause-replays g c =
    no_trace c.in-Ok.config c.in-Ok-read_script.script c.in-Ok.ensures.reads
    (subst (λ (told : Option (List ℕ)). HasScript c.in-Ok.config told c.in-Ok-read_script.script) (c.read_config.ensures.once.kept c.args.script.now) c.in-Ok-read_script.ensures.reads.reads)
    (subst (λ (told : Option (List ℕ)). NoTrace c.in-Err-read_trace.end told) (c.read_script.ensures.reads.once.kept c.args.trace.now ∙ c.read_config.ensures.once.kept c.args.trace.now) c.in-Err-read_trace.ensures.reads)
    refl (c.read_trace.ensures.once.one ∙ ap one_more (c.read_script.ensures.reads.once.one ∙ ap one_more c.read_config.ensures.once.one))

pub returns-clause-replays : goal.returns-clause-replays
returns-clause-replays g c =
    ran c.in-Ok.config c.in-Ok-read_script.script c.in-Ok-read_trace.trace c.replay.result c.in-Ok.ensures.reads
    (subst (λ (told : Option (List ℕ)). HasScript c.in-Ok.config told c.in-Ok-read_script.script) (c.read_config.ensures.once.kept c.args.script.now) c.in-Ok-read_script.ensures.reads.reads)
    (subst (λ (told : Option (List ℕ)). HasTrace told c.in-Ok-read_trace.trace) (c.read_script.ensures.reads.once.kept c.args.trace.now ∙ c.read_config.ensures.once.kept c.args.trace.now) c.in-Ok-read_trace.ensures.reads)
    c.replay.ensures.replayed c.status_of.ensures (c.read_trace.ensures.once.one ∙ ap one_more (c.read_script.ensures.reads.once.one ∙ ap one_more c.read_config.ensures.once.one))

pub returns-in-Err-clause-ends : goal.returns-in-Err-clause-ends
returns-in-Err-clause-ends g c = config_ends c.in-Err.end _ c.in-Err.ensures.reads

pub returns-in-Err-read_script-clause-ends : goal.returns-in-Err-read_script-clause-ends
returns-in-Err-read_script-clause-ends g c = script_ends c.in-Ok.config c.in-Err-read_script.end _ c.in-Err-read_script.ensures.reads.reads

pub returns-in-Err-read_trace-clause-ends : goal.returns-in-Err-read_trace-clause-ends
returns-in-Err-read_trace-clause-ends g c = trace_ends c.in-Err-read_trace.end _ c.in-Err-read_trace.ensures.reads

pub returns-clause-ends : goal.returns-clause-ends
returns-clause-ends g c = run_ends c.replay.result c.status_of.result c.status_of.ensures c.replay.ensures.ends

pub returns-in-Err-clause-one_output : goal.returns-in-Err-clause-one_output
returns-in-Err-clause-one_output g c =
    no-output c.in-Err.end _ _ _ (λ ok. subst (λ (s : Status). NoConfig s (g.F.Files.told c.args.files.now c.args.config.now)) ok c.in-Err.ensures.reads)

pub returns-in-Err-read_script-clause-one_output : goal.returns-in-Err-read_script-clause-one_output
returns-in-Err-read_script-clause-one_output g c =
    no-output c.in-Err-read_script.end _ _ _ (λ ok. subst (λ (s : Status). NoScript c.in-Ok.config s (g.F.Files.told c.read_config.new.files c.args.script.now)) ok c.in-Err-read_script.ensures.reads.reads)

pub returns-in-Err-read_trace-clause-one_output : goal.returns-in-Err-read_trace-clause-one_output
returns-in-Err-read_trace-clause-one_output g c =
    no-output c.in-Err-read_trace.end _ _ _ (λ ok. subst (λ (s : Status). NoTrace s (g.F.Files.told c.read_script.new.files c.args.trace.now)) ok c.in-Err-read_trace.ensures.reads)

pub returns-clause-one_output : goal.returns-clause-one_output
returns-clause-one_output g c =
    let given : Given = given_by (g.F.Files.told c.args.files.now) c.args.config.now c.args.script.now c.args.trace.now in
    one-output c.status_of.result given c.in-Ok.config c.in-Ok-read_script.script c.in-Ok-read_trace.trace c.replay.result (g.K.Sink.state c.args.out.now) (g.K.Sink.state c.replay.new.out)
    c.in-Ok.ensures.reads
    (subst (λ (told : Option (List ℕ)). HasScript c.in-Ok.config told c.in-Ok-read_script.script) (c.read_config.ensures.once.kept c.args.script.now) c.in-Ok-read_script.ensures.reads.reads)
    (subst (λ (told : Option (List ℕ)). HasTrace told c.in-Ok-read_trace.trace) (c.read_script.ensures.reads.once.kept c.args.trace.now ∙ c.read_config.ensures.once.kept c.args.trace.now) c.in-Ok-read_trace.ensures.reads)
    c.replay.ensures.replayed c.status_of.ensures

pub returns-in-Err-clause-headline : goal.returns-in-Err-clause-headline
returns-in-Err-clause-headline g c = inr (no-config-run c.in-Err.end _ c.in-Err.ensures.reads, refl)

pub returns-in-Err-read_script-clause-headline : goal.returns-in-Err-read_script-clause-headline
returns-in-Err-read_script-clause-headline g c = inr (no-script-run c.in-Ok.config c.in-Err-read_script.end _ c.in-Err-read_script.ensures.reads.reads, refl)

pub returns-in-Err-read_trace-clause-headline : goal.returns-in-Err-read_trace-clause-headline
returns-in-Err-read_trace-clause-headline g c = inr (no-trace-run c.in-Err-read_trace.end _ c.in-Err-read_trace.ensures.reads, refl)

pub returns-clause-headline : goal.returns-clause-headline
returns-clause-headline g c =
    let given : Given = given_by (g.F.Files.told c.args.files.now) c.args.config.now c.args.script.now c.args.trace.now in
    let old = g.K.Sink.state c.args.out.now in
    let new = g.K.Sink.state c.replay.new.out in
    inl (subst (λ (end : Status). SharesOver end given old new) (sym c.status_of.ensures)
    (shares-over given c.in-Ok.config c.in-Ok-read_script.script c.in-Ok-read_trace.trace c.replay.result old new
    c.assure_sound.ensures c.assure_script.ensures c.in-Ok.ensures.reads
    (subst (λ (told : Option (List ℕ)). HasScript c.in-Ok.config told c.in-Ok-read_script.script) (c.read_config.ensures.once.kept c.args.script.now) c.in-Ok-read_script.ensures.reads.reads)
    (subst (λ (told : Option (List ℕ)). HasTrace told c.in-Ok-read_trace.trace) (c.read_script.ensures.reads.once.kept c.args.trace.now ∙ c.read_config.ensures.once.kept c.args.trace.now) c.in-Ok-read_trace.ensures.reads)
    c.replay.ensures.replayed))
