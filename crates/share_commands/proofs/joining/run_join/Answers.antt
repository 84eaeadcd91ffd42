use Rattle.std.proofs.Common.{refl}
use Rattle.client_core.specs.Happenings.{joining}
use Rattle.share_commands.specs.Joining.{no_script, joined}
use Rattle.share_commands.proofs.ClientEnds.{silent_goes, unlinked, link_of_end, causes_of_client, released_of_client}
use Rattle.share_commands.proofs.joining.run_join.Goals as goal

pub returns-in-Err-clause-joins : goal.returns-in-Err-clause-joins
returns-in-Err-clause-joins g c =
    no_script c.in-Err.ensures.reads refl refl c.read_client_script.ensures.once.one

pub returns-in-Err-clause-released : goal.returns-in-Err-clause-released
returns-in-Err-clause-released g c = silent_goes c.in-Err.end _ _ refl

pub returns-in-Err-clause-link_faults : goal.returns-in-Err-clause-link_faults
returns-in-Err-clause-link_faults g c = unlinked c.in-Err.end _ _ c.in-Err.ensures.reads

pub returns-clause-joins : goal.returns-clause-joins
returns-clause-joins g c =
    joined c.in-Ok.script c.join.result c.in-Ok.ensures.reads c.join.ensures c.status_of_client.ensures c.read_client_script.ensures.once.one

pub returns-clause-released : goal.returns-clause-released
returns-clause-released g c =
    released_of_client g.L.Link.state g.L.Link.leads (joining c.args.name c.args.w c.args.h c.in-Ok.script) c.args.host.now c.args.port c.args.turns c.join.result c.status_of_client.result _ _ _ _ c.status_of_client.ensures c.join.ensures

pub returns-clause-causes : goal.returns-clause-causes
returns-clause-causes g c =
    causes_of_client g.L.Link.state g.L.Link.leads (joining c.args.name c.args.w c.args.h c.in-Ok.script) c.args.host.now c.args.port c.args.turns c.join.result c.status_of_client.result _ _ _ _ _ _ c.status_of_client.ensures c.in-Ok.ensures.faults c.join.ensures

pub returns-clause-link_faults : goal.returns-clause-link_faults
returns-clause-link_faults g c =
    link_of_end g.L.Link.state g.L.Link.leads (joining c.args.name c.args.w c.args.h c.in-Ok.script) c.args.host.now c.args.port c.args.turns c.join.result c.status_of_client.result _ _ _ _ c.status_of_client.ensures c.join.ensures
