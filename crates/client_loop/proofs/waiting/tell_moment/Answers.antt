use Rattle.std.proofs.Common.{refl, inr}
use Rattle.client_core.specs.Happenings.{passes}
use Rattle.attentive_links.specs.InPart.{RanSome}
use Rattle.client_loop.proofs.WaitSteps.{told-on}
use Rattle.client_loop.proofs.waiting.tell_moment.Goals as goal

pub returns-in-Ok : goal.returns-in-Ok
returns-in-Ok g c =
    told-on g.C.Attendant.stands c.args.core.now c.moment.new.self c.args.watch.now c.look.new.watch c.queued-before.result.now (passes c.args.moment) (λ d e. RanSome d c.args.moment e) c.look.result c.queued-before.ensures c.in-Ok.ensures c.look.ensures

pub returns-in-Err : goal.returns-in-Err
returns-in-Err g c = λ front d goes stood. let part = c.in-Err.ensures front d goes stood in inr (refl, part.0, part.1, part.2)
