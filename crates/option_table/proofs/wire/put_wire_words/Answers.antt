use Rattle.std.proofs.Common.{arith}
use Rattle.share_base.proofs.FlatMaps.{part_added}
use Rattle.option_table.specs.Table.{options}
use Rattle.option_table.specs.Wire.{sent_of}
use Rattle.option_table.proofs.wire.put_wire_words.Goals as goal

pub loop-option-preserved : goal.loop-option-preserved
loop-option-preserved c =
    part_added (sent_of c.args.own.now c.args.all.now) options c.loop-option.option-index _
    c.loop-option.out c.put_option.new.out _
    (omega arith) c.loop-option.invariant c.in_ok-put_option.ensures
