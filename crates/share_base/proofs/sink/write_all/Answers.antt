use Rattle.std.proofs.Common.{◌∙◌}
use Rattle.share_base.proofs.ToldLists.{front_grows, front_fits}
use Rattle.share_base.proofs.sink.write_all.Goals as goal

pub loop-at-preserved : goal.loop-at-preserved
loop-at-preserved g c =
    let state = g.K.Sink.state in
    let l = c.loop-at in
    record {
      within =
          front_fits l.at c.in-Took.n c.args.bytes.now c.loop-at-test.true c.in-Took.ensures.fits;
      taken =
          front_grows (state c.args.out.now).taken (state l.out).taken
          (state c.write.new.self).taken l.at c.in-Took.n c.args.bytes.now l.invariant.taken
          c.in-Took.ensures.writes.takes;
      faults = c.in-Took.ensures.writes.counts ∙ l.invariant.faults;
    }
