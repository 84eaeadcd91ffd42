use Rattle.std.proofs.Common.{arith}
use Rattle.config_text.specs.Normal.{link_at, side_links}
use Rattle.screen_config.specs.Values.{hundredths}
use Rattle.config_text.proofs.Numbers.{hundredth_added, count_of_hundredths}
use Rattle.share_base.proofs.FlatMaps.{parts_done}
use Rattle.config_text.proofs.printing.put_side.Goals as goal

pub loop-a-preserved : goal.loop-a-preserved
loop-a-preserved c =
    hundredth_added (link_at c.args.config.now c.args.from c.args.side) c.loop-a.a c.loop-a.out
    c.put_link_at.new.out _
    (omega arith) c.loop-a.invariant c.in_ok-put_link_at.ensures

pub returns : goal.returns
unfolding side_links
returns c =
    parts_done (link_at c.args.config.now c.args.from c.args.side) hundredths c.loop-a.a
    c.loop-a.out _ (omega (arith, count_of_hundredths)) c.loop-a.invariant
