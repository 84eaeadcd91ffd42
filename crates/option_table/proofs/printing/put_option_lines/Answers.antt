use Rattle.std.proofs.Common.{arith}
use Rattle.share_base.proofs.FlatMaps.{part_added}
use Rattle.option_table.specs.Table.{options}
use Rattle.option_table.specs.Printed.{option_line}
use Rattle.option_table.proofs.printing.put_option_lines.Goals as goal

pub loop-option-preserved : goal.loop-option-preserved
loop-option-preserved c =
    part_added (option_line c.args.tabs.now c.args.settings.now) options c.loop-option.option-index
    _ c.loop-option.out c.put_line.new.out _
    (omega arith) c.loop-option.invariant c.in_ok-put_line.ensures
