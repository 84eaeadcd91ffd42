use Rattle.client_loop.proofs.Leaves.{ends}
use Rattle.client_loop.proofs.leaving.leave.Goals as goal

pub returns : goal.returns
returns g c = λ r old is_new h.
    ends g.C.Attendant.stands g.L.Link.state g.L.Link.leads g.L.Link.goes_on r is_new c.args.core.now c.args.link.now c.close.new.link old (g.K.Sink.state c.args.out.now) (g.K.Sink.state c.release-end.new.out) c.release-end.result c.close.result c.close.ensures c.args.end h c.release-end.ensures
