use Rattle.std.proofs.Common.{refl}
use Rattle.server_core.specs.Promises.{origin}
use Rattle.hub_serving.specs.Serving.{not_begun, ran}
use Rattle.hub_serving.proofs.serving.run_server.Goals as goal

pub returns-in_default : goal.returns-in_default
returns-in_default g c = not_begun refl refl refl

pub serve-requires-clause-starts : goal.serve-requires-clause-starts
serve-requires-clause-starts g c =
    let o = origin c.args.config c.args.script 0 in
    (o, c.in-Ok.ensures.runs.is_in)

pub returns : goal.returns
returns g c =
    let o = origin c.args.config c.args.script 0 in
    ran c.serve.new.core (c.serve.ensures o c.in-Ok.ensures.runs.is_in)
