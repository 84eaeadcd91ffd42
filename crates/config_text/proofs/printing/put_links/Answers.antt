use Rattle.std.proofs.Common.{arith}
use Rattle.share_base.proofs.FlatMaps.{parts_done}
use Rattle.config_text.specs.Normal.{links_of}
use Rattle.screen_config.specs.Values.{numbers_of}
use Rattle.config_text.proofs.Numbers.{count_of_numbers, number_added}
use Rattle.config_text.proofs.printing.put_links.Goals as goal

pub loop-screen-preserved : goal.loop-screen-preserved
loop-screen-preserved c =
    number_added (links_of c.args.config.now) c.args.config.now c.loop-screen.screen
    c.loop-screen.out c.put_links_of.new.out _
    (omega arith) c.loop-screen.invariant c.in_ok-put_links_of.ensures

pub returns : goal.returns
returns c =
    parts_done (links_of c.args.config.now) (numbers_of c.args.config.now) c.loop-screen.screen
    c.loop-screen.out _
    (omega (arith, count_of_numbers c.args.config.now)) c.loop-screen.invariant
