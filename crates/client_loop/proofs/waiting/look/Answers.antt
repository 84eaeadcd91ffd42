use Rattle.std.specs.Prelude.{Some, None, Ok, Err, nat_lt, length}
use Rattle.std.proofs.Common.{refl}
use Rattle.client_loop.proofs.WaitSteps.{looked}
use Rattle.client_loop.proofs.waiting.look.Goals as goal

pub returns-in-Some : goal.returns-in-Some
returns-in-Some g c =
    looked g.C.Attendant.stands c.args.core.now c.args.watch.now c.heed.new.self c.args.before (nat_lt c.args.before (length c.queued.result.now)) c.queued.result.now (Some c.in-Some.end) (Err c.in-Some.end) c.queued.ensures refl c.heed.ensures c.in-Some.ensures refl

pub returns-in-None : goal.returns-in-None
returns-in-None g c =
    looked g.C.Attendant.stands c.args.core.now c.args.watch.now c.heed.new.self c.args.before (nat_lt c.args.before (length c.queued.result.now)) c.queued.result.now None (Ok tt) c.queued.ensures refl c.heed.ensures c.in-None.ensures refl
