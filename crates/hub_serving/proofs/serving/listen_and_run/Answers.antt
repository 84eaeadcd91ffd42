use Rattle.std.proofs.Common.{refl}
use Rattle.hub_serving.specs.Serving.{not_listening, listened}
use Rattle.hub_serving.proofs.PortRuns.{still_new}
use Rattle.hub_serving.proofs.serving.listen_and_run.Goals as goal

pub run_server-requires-clause-new_hub : goal.run_server-requires-clause-new_hub
run_server-requires-clause-new_hub g c =
    still_new c.args.port _ _ c.in-Ok.ensures.calls c.requires.new_hub

pub returns-in-Ok : goal.returns-in-Ok
returns-in-Ok g c =
    listened c.listen.new.self c.in-Ok.ensures.calls c.in-Ok.ensures.leads c.run_server.ensures

pub returns-in-Err : goal.returns-in-Err
returns-in-Err g c =
    not_listening c.in-Err.cause c.end_without.ensures c.in-Err.ensures.calls c.in-Err.ensures.leads refl
