use Rattle.client_loop.proofs.Leaves.{is-closed, not-closed}
use Rattle.client_loop.proofs.leaving.close.Goals as goal

pub returns-in-Ok : goal.returns-in-Ok
returns-in-Ok g c = is-closed g.L.Link.state g.L.Link.leads c.args.end c.args.link.now c.close.new.self c.in-Ok.ensures.leads c.in-Ok.ensures.calls

pub returns-in-Err : goal.returns-in-Err
returns-in-Err g c = not-closed g.L.Link.state g.L.Link.leads c.args.end c.args.link.now c.close.new.self c.in-Err.ensures.leads c.unclosed.result c.unclosed.ensures c.in-Err.ensures.calls
