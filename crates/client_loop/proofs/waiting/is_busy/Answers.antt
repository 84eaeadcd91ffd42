use Rattle.std.proofs.Common.{sym}
use Rattle.client_loop.proofs.WaitSteps.{busy-reader, busy-writer, idle}
use Rattle.client_loop.proofs.waiting.is_busy.Goals as goal

pub returns-then-watch : goal.returns-then-watch
returns-then-watch g c = λ front d goes stood. sym (busy-reader c.args.watch.now d goes c.if-watch.true)

pub returns-then-not-watch : goal.returns-then-not-watch
returns-then-not-watch g c = λ front d goes stood. sym (idle c.args.watch.now d c.if-watch.false c.if-not-watch.true)

pub returns : goal.returns
returns g c = λ front d goes stood. busy-writer c.args.watch.now d c.queued.result.now c.is_empty.result c.if-watch.false c.if-not-watch.false (c.queued.ensures front d stood) c.is_empty.ensures
