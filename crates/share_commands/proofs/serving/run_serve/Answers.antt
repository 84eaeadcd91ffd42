use Rattle.std.specs.Prelude.{ℕ, List, Option}
use Rattle.std.proofs.Common.{refl, ap, sym, subst, ◌∙◌, inr}
use Rattle.share_base.specs.Counts.{one_more}
use Rattle.share_commands.specs.Texts.{HasScript, NoScript}
use Rattle.share_commands.specs.declared.status.Status.{Status}
use Rattle.share_commands.specs.Serving.{ToServe, to_serve, no_script, served}
use Rattle.share_commands.specs.ServingHeadline.{SharesIfServed}
use Rattle.share_commands.proofs.Headline.{no-config-run, no-script-run}
use Rattle.share_commands.proofs.ServingHeadline.{not-served, shares-served}
use Rattle.share_commands.proofs.ServerEnds.{unheard_config, unheard_script, hub_of_end, causes_of_end}
use Rattle.share_commands.proofs.serving.run_serve.Goals as goal

pub returns-in-Err-clause-hub_faults : goal.returns-in-Err-clause-hub_faults
returns-in-Err-clause-hub_faults g c = unheard_config c.in-Err.end _ _ c.in-Err.ensures.reads

pub returns-in-Err-read_script-clause-serves : goal.returns-in-Err-read_script-clause-serves
returns-in-Err-read_script-clause-serves g c =
    no_script c.in-Ok.config c.in-Ok.ensures.reads
    (subst (λ (told : Option (List ℕ)). NoScript c.in-Ok.config c.in-Err-read_script.end told) (c.read_config.ensures.once.kept c.args.script.now) c.in-Err-read_script.ensures.reads.reads)
    refl refl (c.read_script.ensures.reads.once.one ∙ ap one_more c.read_config.ensures.once.one)

pub returns-in-Err-read_script-clause-hub_faults : goal.returns-in-Err-read_script-clause-hub_faults
returns-in-Err-read_script-clause-hub_faults g c =
    unheard_script c.in-Ok.config c.in-Err-read_script.end _ _ c.in-Err-read_script.ensures.reads.reads

pub returns-clause-serves : goal.returns-clause-serves
returns-clause-serves g c =
    served c.in-Ok.config c.in-Ok-read_script.script c.serve_on.result c.in-Ok.ensures.reads
    (subst (λ (told : Option (List ℕ)). HasScript c.in-Ok.config told c.in-Ok-read_script.script) (c.read_config.ensures.once.kept c.args.script.now) c.in-Ok-read_script.ensures.reads.reads)
    c.serve_on.ensures.serves c.status_of.ensures (c.read_script.ensures.reads.once.one ∙ ap one_more c.read_config.ensures.once.one)

pub returns-clause-causes : goal.returns-clause-causes
returns-clause-causes g c =
    causes_of_end c.serve_on.result c.status_of.result _ _ (g.K.Sink.state c.args.out.now) (g.K.Sink.state c.serve_on.new.out) c.status_of.ensures (c.in-Ok-read_script.ensures.reads.faults ∙ c.in-Ok.ensures.faults) c.serve_on.ensures.output_faults

pub returns-clause-hub_faults : goal.returns-clause-hub_faults
returns-clause-hub_faults g c =
    hub_of_end c.serve_on.result c.status_of.result _ _ c.status_of.ensures c.serve_on.ensures.hub_faults

pub returns-in-Err-clause-headline : goal.returns-in-Err-clause-headline
returns-in-Err-clause-headline g c = inr (not-served c.in-Err.end (no-config-run c.in-Err.end _ c.in-Err.ensures.reads), refl)

pub returns-in-Err-read_script-clause-headline : goal.returns-in-Err-read_script-clause-headline
returns-in-Err-read_script-clause-headline g c =
    inr (not-served c.in-Err-read_script.end (no-script-run c.in-Ok.config c.in-Err-read_script.end _ c.in-Err-read_script.ensures.reads.reads), refl)

pub returns-clause-headline : goal.returns-clause-headline
returns-clause-headline g c =
    let given : ToServe = to_serve (g.F.Files.told c.args.files.now) c.args.config.now c.args.script.now c.args.port c.args.turns in
    let old = g.K.Sink.state c.args.out.now in
    let new = g.K.Sink.state c.serve_on.new.out in
    subst (λ (end : Status). SharesIfServed g.H.Hub.state end given c.args.hub.now c.serve_on.new.hub old new) (sym c.status_of.ensures)
    (shares-served g.H.Hub.state g.H.Hub.leads given c.in-Ok.config c.in-Ok-read_script.script c.serve_on.result c.args.hub.now c.serve_on.new.hub old new
    c.assure_sound.ensures c.assure_script.ensures c.in-Ok.ensures.reads
    (subst (λ (told : Option (List ℕ)). HasScript c.in-Ok.config told c.in-Ok-read_script.script) (c.read_config.ensures.once.kept c.args.script.now) c.in-Ok-read_script.ensures.reads.reads)
    c.serve_on.ensures.serves)
