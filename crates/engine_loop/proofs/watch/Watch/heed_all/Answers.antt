use Rattle.std.proofs.Common.{refl}
use Rattle.engine_loop.proofs.WatchFlags.{sets-more}
use Rattle.engine_loop.proofs.watch.Watch.heed_all.Goals as goal

pub loop-mark-preserved : goal.loop-mark-preserved
loop-mark-preserved c = sets-more c.args.self.now c.loop-mark.self c.heed.new.self c.args.marks.now c.loop-mark.mark-index _ _ c.loop-mark-test.true refl c.loop-mark.invariant c.heed.ensures
