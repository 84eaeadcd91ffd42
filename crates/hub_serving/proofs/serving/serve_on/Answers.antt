use Rattle.server_core.specs.Promises.{origin}
use Rattle.hub_serving.proofs.PortRuns.{hub_counts, output_counts}
use Rattle.hub_serving.proofs.serving.serve_on.Goals as goal

pub returns-clause-hub_faults : goal.returns-clause-hub_faults
returns-clause-hub_faults g c =
    hub_counts g.H.Hub.state g.H.Hub.leads (origin c.args.config c.args.script 0) c.args.port c.args.turns _ _ _ _ _ c.listen_and_run.ensures

pub returns-clause-output_faults : goal.returns-clause-output_faults
returns-clause-output_faults g c =
    output_counts g.H.Hub.state g.H.Hub.leads (origin c.args.config c.args.script 0) c.args.port c.args.turns _ _ _ _ _ c.listen_and_run.ensures
